-- The trace of RV32I by whole instructions: a line for each instruction that is carried out, and a last line where no more are,
-- with the number of the refusal or 0 at the limit. It knows the machine alone.
use Rattle.std.specs.Prelude.{ℕ, zero, suc, ◌+◌, ◌/◌, cond, List, [], ◌++◌, nat_lt}
use Rattle.isa.specs.declared.mnemonic.Class.{Class}
use Rattle.machine.specs.Causes.{number_of}
use Rattle.machine.specs.Machine.{Arch, Step, went, cannot, stepped, long}
use Rattle.memory.specs.declared.kind.Kind.{Kind}
use Rattle.registers.specs.declared.file.RegisterFile.{RegisterFile}
use Rattle.trace_lines.specs.Lines.{step_of, stop_of}

-- the machine with this PC, these registers and these words
abbrev pub starts : ℕ → RegisterFile → (ℕ → ℕ) → Arch
starts p rs W = record { pc = p; registers = rs; words = W }

-- the clocks of an instruction: three, and one more for a load and for a branch
abbrev pub clocks_of : Class → ℕ
clocks_of class = 3 + long class

-- the line of the instruction at a: PC, the word there, and its clocks
abbrev pub line_at : Arch → Class → List ℕ
line_at a class = step_of a.pc (a.words (a.pc / 4)) (clocks_of class)

abbrev pub lines_on : Arch → Step → (Arch → List ℕ) → List ℕ
lines_on a (went b class) rest = line_at a class ++ rest b
lines_on a (cannot c) rest = []

-- the lines of at most k instructions from a on, over a memory of the kinds K
unfoldable pub lines_from : (ℕ → Kind) → ℕ → Arch → List ℕ
lines_from K zero a = []
lines_from K (suc k) a = lines_on a (stepped K a) (lines_from K k)

abbrev pub stop_on : ℕ → ℕ → Arch → Step → (ℕ → ℕ → Arch → List ℕ) → List ℕ
stop_on instructions clocks a (went b class) rest = rest (instructions + 1) (clocks + clocks_of class) b
stop_on instructions clocks a (cannot c) rest = stop_of (number_of c) a.pc instructions clocks

-- the last line where at most k instructions more are carried out from a on; the numbers are how many were before, and their clocks
unfoldable pub stop_from : (ℕ → Kind) → ℕ → ℕ → ℕ → Arch → List ℕ
stop_from K zero instructions clocks a = stop_of 0 a.pc instructions clocks
stop_from K (suc k) instructions clocks a = stop_on instructions clocks a (stepped K a) (stop_from K k)

-- the trace of at most so many instructions
abbrev pub trace_of : (ℕ → Kind) → ℕ → Arch → List ℕ
trace_of K limit a = lines_from K limit a ++ stop_from K limit 0 0 a

-- the last line by one run, which is of 1,000,000 instructions at most
unfoldable pub last_line_of : (ℕ → Kind) → ℕ → Arch → List ℕ
last_line_of K limit a = cond (nat_lt 1000000 limit) (stop_of 7 a.pc 0 0) (stop_from K limit 0 0 a)
