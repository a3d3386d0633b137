-- What a bench shows after a run, and what it has to show at the end of a program's published path.
use Rattle.std.specs.Prelude.{ℕ, zero, suc, ◌+◌, ◌-◌, ◌%◌, ◌^◌, replicate, Ok, Err, Result}
use Rattle.bench.specs.Calls.{stepped_state, ticked_state, new_state}
use Rattle.bench.specs.Looks.{look_answer}
use Rattle.bench.specs.State.{State}
use Rattle.bench.specs.declared.look.Look.{Look}
use Rattle.bench.specs.declared.look.Look.TheVariants as look
use Rattle.bench.specs.declared.look.LookFault.{LookFault}
use Rattle.memory.specs.declared.kind.Kind.{Kind}
use Rattle.rv32ui_cases.specs.Memories.{kinds_over, words_over}
use Rattle.rv32ui_cases.specs.declared.program.Counts.{Counts}
use Rattle.rv32ui_cases.specs.declared.program.Program.{Program}
use Rattle.rv32ui_cases.specs.declared.running.Calls.{Calls}
use Rattle.rv32ui_cases.specs.declared.running.Calls.TheVariants.{Steps, Ticks}
use Rattle.rv32ui_cases.specs.declared.running.Over.{Over}
use Rattle.rv32ui_cases.specs.declared.running.Over.TheVariants.{ByteImage, Stack}
use Rattle.rv32ui_cases.specs.declared.running.Seen.{Seen}

-- the address of the first word
abbrev pub start_over : Over → ℕ
start_over ByteImage = 0
start_over Stack = 2 ^ 31

-- PC at the program's end, between instructions, the value in the register, and what has retired
abbrev pub expected_of : Program → Over → Seen
expected_of p o = record { pc = (start_over o + p.end) % 2 ^ 32; phase = 0; register = p.value; counts = p.counts }

-- one call of a bench, and so many one after another
abbrev pub called : Calls → State → State
called Steps s = stepped_state s
called Ticks s = ticked_state s

abbrev pub after : Calls → ℕ → State → State
after c zero s = s
after c (suc n) s = called c (after c n s)

-- as many of the calls as the published path has
abbrev pub how_many : Calls → Counts → ℕ
how_many Steps n = n.instructions
how_many Ticks n = n.clocks

-- a number that is looked at; what no register holds if the look is refused
abbrev pub number_or : Result ℕ LookFault → ℕ
number_or (Ok n) = n
number_or (Err _) = 2 ^ 64 - 1

abbrev pub number_at : Look → State → ℕ
number_at at s = number_or (look_answer at s)

-- what is shown of a bench for a case about this register
abbrev pub shown_of : ℕ → State → Seen
shown_of register s = record {
  pc = number_at look.Pc s;
  phase = number_at look.Phase s;
  register = number_at (look.Register register) s;
  counts = record { instructions = number_at look.Retired s; clocks = number_at look.Clocks s };
}

-- a new bench over a memory of this meaning, at the second word from an address on, with all registers zero
abbrev pub begun : ℕ → (ℕ → Kind) → (ℕ → ℕ) → State
begun start K W = new_state K W (replicate 32 0) ((start + 4) % 2 ^ 32)

-- what it shows after the calls for a program that lies there
abbrev pub run_over : Program → Calls → ℕ → (ℕ → Kind) → (ℕ → ℕ) → Seen
run_over p c start K W = shown_of p.register (after c (how_many c p.counts) (begun start K W))

-- the same over the memory that it runs on
abbrev pub seen_over : Program → Over → Calls → Seen
seen_over p o c = run_over p c (start_over o) (kinds_over o) (words_over p o)
