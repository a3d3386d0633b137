-- The lines of the clocks of a core. Byte 10 ends each.
use Rattle.std.specs.Prelude.{ℕ, Bool, cond, List, ◌++◌, codes, decimal}
use Rattle.assembly.specs.Hexadecimal.{eight_digits}
use Rattle.machine.specs.Causes.{number_of}
use Rattle.arch1.specs.Phases.{phase_number}
use Rattle.arch1.specs.Datapath.{Datapath}
use Rattle.arch1.specs.declared.phase.CoreFault.{CoreFault}
use Rattle.arch1.specs.declared.phase.Phase.{Phase}

-- the names of the columns
abbrev pub head_of : List ℕ
head_of = codes "phase pc       tr       ir       dr       ar       flg\n"

-- a flag as a number
abbrev pub bit_of : Bool → ℕ
bit_of b = cond b 1 0

-- PC, TR, IR, DR and AR
abbrev pub columns_of : Datapath → List ℕ
columns_of c = eight_digits c.pc ++ (codes " " ++ (eight_digits c.tr ++ (codes " " ++ (eight_digits c.ir ++ (codes " " ++ (eight_digits c.dr ++ (codes " " ++ eight_digits c.ar)))))))

-- the phase's number, the registers and FLG as a number
abbrev pub transfers_of : ℕ → Datapath → ℕ → List ℕ
transfers_of phase c flg = codes "T" ++ (decimal phase ++ (codes "    " ++ (columns_of c ++ (codes " " ++ (decimal flg ++ codes "\n")))))

-- a clock that was made, by its phase, and the registers after it
abbrev pub clock_of : Phase → Datapath → List ℕ
clock_of phase c = transfers_of (phase_number phase) c (bit_of c.flg)

-- how many clocks were made, and how many instructions retired
abbrev pub counts_of : ℕ → ℕ → List ℕ
counts_of clocks instructions = decimal clocks ++ (codes " clocks, " ++ (decimal instructions ++ codes " instructions\n"))

-- the numbers of a refusal and of the phase, the address, and what was done before
abbrev pub refusal_of : ℕ → ℕ → ℕ → ℕ → ℕ → List ℕ
refusal_of cause phase address clocks instructions =
    codes "refused " ++ (decimal cause ++ (codes " in T" ++ (decimal phase ++ (codes " at " ++ (eight_digits address ++ (codes " after " ++ counts_of clocks instructions))))))

-- a refused clock, after so many clocks and instructions
abbrev pub fault_of : CoreFault → ℕ → ℕ → List ℕ
fault_of f clocks instructions = refusal_of (number_of f.cause) (phase_number f.phase) f.address clocks instructions
