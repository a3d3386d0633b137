-- The cases: the number of each in its published file, and its program.
use Rattle.std.specs.Prelude.{ℕ}
use Rattle.isa.specs.declared.mnemonic.Mnemonic.{Mnemonic}
use Rattle.rv32ui_cases.specs.Programs.{opening}
use Rattle.rv32ui_cases.specs.Shapes.{branch_put, immediate_put, jump_put, load_put, registers_put, store_put, upper_put}
use Rattle.rv32ui_cases.specs.declared.program.Program.{Program}
use Rattle.rv32ui_cases.specs.declared.case.Case.{Case}
use Rattle.rv32ui_cases.specs.declared.case.Case.TheVariants.{Registers, Immediate, Upper, Load, Store, Branch, Jump}

abbrev pub number_of : Case → ℕ
number_of (Registers n _) = n
number_of (Immediate n _) = n
number_of (Upper n _) = n
number_of (Load n _) = n
number_of (Store n _) = n
number_of (Branch n _) = n
number_of (Jump n _) = n

-- what the case's macro of an instruction puts into a program
abbrev pub case_put : Mnemonic → Case → Program → Program
case_put m (Registers _ shape) = registers_put m shape
case_put m (Immediate _ shape) = immediate_put m shape
case_put m (Upper _ shape) = upper_put m shape
case_put m (Load _ shape) = load_put m shape
case_put m (Store _ shape) = store_put m shape
case_put m (Branch _ shape) = branch_put m shape
case_put m (Jump _ shape) = jump_put m shape

-- the case's program, for an instruction
abbrev pub program_of : Case → Mnemonic → Program
program_of c m = case_put m c (opening (number_of c) m)
