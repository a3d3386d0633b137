-- What each instruction does: its class, the operation of the arithmetic, and its operands, the immediate as a word.
use Rattle.std.specs.Prelude.{◌≡◌, ℕ, Some, None, Option}
use Rattle.alu.specs.Operations.{word_of}
use Rattle.alu.specs.declared.comparisons.Comparison.TheVariants.{Equal, NotEqual, Less, GreaterEqual, LessUnsigned, GreaterEqualUnsigned}
use Rattle.alu.specs.declared.loads.Load.TheVariants as load
use Rattle.alu.specs.declared.operations.Operation.TheVariants as operation
use Rattle.alu.specs.declared.stores.Store.TheVariants as store
use Rattle.isa.specs.declared.instruction.Instruction.{Instruction}
use Rattle.isa.specs.declared.mnemonic.Class.{Class}
use Rattle.isa.specs.declared.mnemonic.Class.TheVariants as class
use Rattle.isa.specs.declared.mnemonic.Mnemonic.{Mnemonic}
use Rattle.isa.specs.declared.mnemonic.Mnemonic.TheVariants.{Add, Sub, Sll, Slt, Sltu, Xor, Srl, Sra, Or, And}
use Rattle.isa.specs.declared.mnemonic.Mnemonic.TheVariants.{Addi, Slli, Slti, Sltiu, Xori, Srli, Srai, Ori, Andi}
use Rattle.isa.specs.declared.mnemonic.Mnemonic.TheVariants.{Lui, Auipc, Lb, Lh, Lw, Lbu, Lhu, Sb, Sh, Sw, Jal, Jalr}
use Rattle.isa.specs.declared.mnemonic.Mnemonic.TheVariants.{Beq, Bne, Blt, Bge, Bltu, Bgeu}
use Rattle.isa.specs.Decoding.{reading_of}
use Rattle.isa.specs.Reading.{Reads}
use Rattle.isa.specs.Table.{row_of}
use Rattle.actions.specs.declared.action.Action.{Action}
use Rattle.actions.specs.declared.action.Action.TheVariants as action

-- the immediate of an instruction, modulo 2 ^ 32
abbrev immediate : Instruction → ℕ
immediate i = word_of i.immediate

abbrev comp : (ℕ → ℕ → ℕ → Action) → Instruction → Action
comp make i = make i.rd i.rs1 i.rs2

abbrev from_one : (ℕ → ℕ → ℕ → Action) → Instruction → Action
from_one make i = make i.rd i.rs1 (immediate i)

abbrev from_two : (ℕ → ℕ → ℕ → Action) → Instruction → Action
from_two make i = make i.rs1 i.rs2 (immediate i)

-- what the instruction i does, by its mnemonic
abbrev pub action_by : Mnemonic → Instruction → Action
action_by Add i = comp (action.Comp operation.Add) i
action_by Sub i = comp (action.Comp operation.Sub) i
action_by Sll i = comp (action.Comp operation.Sll) i
action_by Slt i = comp (action.Comp operation.Slt) i
action_by Sltu i = comp (action.Comp operation.Sltu) i
action_by Xor i = comp (action.Comp operation.Xor) i
action_by Srl i = comp (action.Comp operation.Srl) i
action_by Sra i = comp (action.Comp operation.Sra) i
action_by Or i = comp (action.Comp operation.Or) i
action_by And i = comp (action.Comp operation.And) i
action_by Addi i = from_one (action.CompI operation.Add) i
action_by Slli i = from_one (action.CompI operation.Sll) i
action_by Slti i = from_one (action.CompI operation.Slt) i
action_by Sltiu i = from_one (action.CompI operation.Sltu) i
action_by Xori i = from_one (action.CompI operation.Xor) i
action_by Srli i = from_one (action.CompI operation.Srl) i
action_by Srai i = from_one (action.CompI operation.Sra) i
action_by Ori i = from_one (action.CompI operation.Or) i
action_by Andi i = from_one (action.CompI operation.And) i
action_by Lui i = action.Lui i.rd (immediate i)
action_by Auipc i = action.Auipc i.rd (immediate i)
action_by Lb i = from_one (action.Ld load.Byte) i
action_by Lh i = from_one (action.Ld load.Half) i
action_by Lw i = from_one (action.Ld load.Word) i
action_by Lbu i = from_one (action.Ld load.ByteUnsigned) i
action_by Lhu i = from_one (action.Ld load.HalfUnsigned) i
action_by Sb i = from_two (action.St store.Byte) i
action_by Sh i = from_two (action.St store.Half) i
action_by Sw i = from_two (action.St store.Word) i
action_by Jal i = action.Jal i.rd (immediate i)
action_by Jalr i = from_one action.Jalr i
action_by Beq i = from_two (action.Br Equal) i
action_by Bne i = from_two (action.Br NotEqual) i
action_by Blt i = from_two (action.Br Less) i
action_by Bge i = from_two (action.Br GreaterEqual) i
action_by Bltu i = from_two (action.Br LessUnsigned) i
action_by Bgeu i = from_two (action.Br GreaterEqualUnsigned) i

abbrev pub action_in : Option Instruction → Option Action
action_in None = None
action_in (Some i) = Some (action_by i.mnemonic i)

abbrev pub class_of : Action → Class
class_of (action.Comp operation rd rs1 rs2) = class.Comp
class_of (action.CompI operation rd rs1 imm) = class.CompI
class_of (action.Lui rd imm) = class.Lui
class_of (action.Auipc rd imm) = class.Auipc
class_of (action.Ld load rd rs1 imm) = class.Ld
class_of (action.St store rs1 rs2 imm) = class.St
class_of (action.Jal rd imm) = class.Jal
class_of (action.Jalr rd rs1 imm) = class.Jalr
class_of (action.Br comparison rs1 rs2 imm) = class.Br

-- the search of the table finds exactly the instruction that the word reads as, and that instruction does what its class says
pub record FoundAsRead (w : ℕ) : Type 0 where
  pub found : (i : Instruction) → Reads w i → reading_of w ≡ Some i
  pub reads : (i : Instruction) → reading_of w ≡ Some i → Reads w i
  pub class : (i : Instruction) → class_of (action_by i.mnemonic i) ≡ (row_of i.mnemonic).class

-- what the word w does as an instruction, or that it is none
abbrev pub action_of_word : ℕ → Option Action
action_of_word w = action_in (reading_of w)
