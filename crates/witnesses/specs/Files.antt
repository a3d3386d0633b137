-- A bench file with no image, arguments, a line of a listing, and a state that no bench comes to.
use Rattle.std.specs.Prelude.{ℕ, List, [], ◌∷◌, ◌++◌, ◌^◌, Some, None, codes, pos, replicate}
use Rattle.assembly.specs.Assembly.{text_of}
use Rattle.bench.specs.Calls.{new_state}
use Rattle.bench.specs.State.{State}
use Rattle.benchfile.specs.Format.{Contents}
use Rattle.playback.specs.declared.states.Span.{Span}
use Rattle.report.specs.Lines.{line_of}
use Rattle.setup.specs.Options.{Told}
use Rattle.setup.specs.declared.options.Options.{Options}
use Rattle.witnesses.specs.Benches.{no_words}
use Rattle.witnesses.specs.Machines.{word}
use Rattle.witnesses.specs.Memories.{zeros}
use Rattle.witnesses.specs.Reading.{addi}

abbrev pub file : Contents
file = record { start = 0; base = 0; limit = 10; image = [] }

-- no shield and no bank
abbrev pub plain : Options
plain = record { shield = None; ram = None }

-- a file and a shield, and what they say if it ends at this word
abbrev pub shielding : List (List ℕ)
shielding = codes "f" ∷ codes "--shield" ∷ codes "1" ∷ codes "2" ∷ []

abbrev pub shielded_to : ℕ → Told
shielded_to n = record { file = codes "f"; options = record { shield = Some (record { from = 1; to = n }); ram = None } }

-- of the word at address 0
abbrev pub line : List ℕ
line = line_of 0 word (text_of (addi (pos 5))) ++ []

abbrev pub at_two_to_32 : State
at_two_to_32 = new_state no_words zeros (replicate 32 0) (2 ^ 32)

-- no bytes of a memory
abbrev pub no_bytes : Span
no_bytes = record { from = 0; length = 0 }
