-- A script that is played on the bench of a file, and the instructions that stand after it.
use Rattle.std.specs.Prelude.{◌≡◌, ℕ, ◌-◌, ◌*◌, ◌%◌, ◌^◌, min, List, length, Ok, Err, Result}
use Rattle.benchfile.specs.Format.{Contents}
use Rattle.benchfile.specs.Refusals.{number_of}
use Rattle.benchfile.specs.declared.refusals.Refusal.{Refusal}
use Rattle.playback_lines.specs.Lines.{no_command}
use Rattle.playback.specs.Transcript.{Transcript}
use Rattle.playback.specs.declared.states.Span.{Span}
use Rattle.report.specs.Lines.{refused_of}
use Rattle.session.specs.declared.call.Call.{Call}
use Rattle.setup.specs.Files.{start_in}
use Rattle.setup.specs.Map.{bank_from, bank_length}
use Rattle.setup.specs.declared.options.Options.{Options}

-- the bytes of the image that show, and those of the bank; words of number 2 ^ 30 and above are none
abbrev pub image_span : Options → Contents → Span
image_span o file = record { from = file.base; length = min (length file.image) (4 * bank_from o.ram - file.base) }

abbrev pub bank_span : Options → Span
bank_span o = record { from = 4 * bank_from o.ram % 2 ^ 32; length = 4 * min (bank_length o.ram) (2 ^ 30 - bank_from o.ram) }

-- the calls on a new bench of the file, as many steps alone on another, and what has changed since the start of either
unfoldable pub Plays : Options → Contents → List Call → List ℕ → Type 0
Plays o file cs text = Transcript (start_in o file) (start_in o file) (start_in o file) (image_span o file) (bank_span o) cs text

-- what is printed for what a file and a script say
abbrev pub Prints : Options → Result Contents Refusal → Result (List Call) ℕ → List ℕ → Type 0
Prints o (Err refusal) script text = text ≡ refused_of (number_of refusal)
Prints o (Ok file) (Err line) text = text ≡ no_command line
Prints o (Ok file) (Ok cs) text = Plays o file cs text
