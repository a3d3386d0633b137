-- A conversation over a bench file.
use Rattle.std.specs.Prelude.{◌≡◌, ℕ, List, Some, Ok, Err, Option, Result, IfSome}
use Rattle.std.specs.Io.KnownBytes.{Appends}
use Rattle.benchfile.specs.Format.{Contents}
use Rattle.benchfile.specs.Refusals.{number_of}
use Rattle.benchfile.specs.declared.refusals.Refusal.{Refusal}
use Rattle.report.specs.Lines.{refused_of}
use Rattle.session.specs.Lawful.{fresh_of}
use Rattle.setup.specs.Files.{start_in}
use Rattle.setup.specs.declared.options.Options.{Options}
use Rattle.conversation.specs.Conversations.{conversation, left_of}
use Rattle.commands.specs.Lines.{lines}

-- what is sent if these bytes are given: the conversation over a new bench of the file, or the line of the file's refusal
abbrev pub SentOver : Result Contents Refusal → Options → Option (List ℕ) → Option (List ℕ) → Option (List ℕ) → Type 0
SentOver (Ok file) o given before after = IfSome given (λ script. Appends before after (conversation (fresh_of (start_in o file)) (lines script)))
SentOver (Err refusal) o given before after = Appends before after (refused_of (number_of refusal))

-- what is left of the bytes that were given: what the conversation leaves, or all of them
abbrev pub LeftOver : Result Contents Refusal → Options → Option (List ℕ) → Option (List ℕ) → Type 0
LeftOver (Ok file) o given left = IfSome given (λ script. left ≡ Some (left_of (fresh_of (start_in o file)) script))
LeftOver (Err refusal) o given left = left ≡ given
