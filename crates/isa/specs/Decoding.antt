-- Which instruction a word is, found by a search of the table. `Reading` says the same as a relation.
use Rattle.std.specs.Prelude.{ℕ, Bool, ◌&&◌, List, [], ◌∷◌, Some, None, Option, ◌==◌}
use Rattle.std.specs.List.{find}
use Rattle.bits.specs.Field.{field}
use Rattle.isa.specs.declared.instruction.Instruction.{Instruction}
use Rattle.isa.specs.declared.mnemonic.Format.{Format}
use Rattle.isa.specs.declared.mnemonic.Format.TheVariants.{Register, Immediate, Shift, Store, Branch, Upper, Jump}
use Rattle.isa.specs.declared.mnemonic.Mnemonic.{Mnemonic}
use Rattle.isa.specs.declared.mnemonic.Mnemonic.TheVariants.{Add, Sub, Sll, Slt, Sltu, Xor, Srl, Sra, Or, And}
use Rattle.isa.specs.declared.mnemonic.Mnemonic.TheVariants.{Addi, Slli, Slti, Sltiu, Xori, Srli, Srai, Ori, Andi}
use Rattle.isa.specs.declared.mnemonic.Mnemonic.TheVariants.{Lui, Auipc, Lb, Lh, Lw, Lbu, Lhu, Sb, Sh, Sw, Jal, Jalr}
use Rattle.isa.specs.declared.mnemonic.Mnemonic.TheVariants.{Beq, Bne, Blt, Bge, Bltu, Bgeu}
use Rattle.isa.specs.declared.table.Row.{Row}
use Rattle.isa.specs.Reading.{in_format}
use Rattle.isa.specs.Table.{row_of}

-- `Agrees` as a test
abbrev pub agrees : Format → Row → ℕ → ℕ → ℕ → Bool
agrees Register r o f g = o == r.opcode && (f == r.funct3 && g == r.funct7)
agrees Immediate r o f g = o == r.opcode && f == r.funct3
agrees Shift r o f g = o == r.opcode && (f == r.funct3 && g == r.funct7)
agrees Store r o f g = o == r.opcode && f == r.funct3
agrees Branch r o f g = o == r.opcode && f == r.funct3
agrees Upper r o f g = o == r.opcode
agrees Jump r o f g = o == r.opcode

-- `Selects` as a test, by the codes of the word w
abbrev pub selects : Mnemonic → ℕ → Bool
selects m w = agrees (row_of m).format (row_of m) (field 0 7 w) (field 12 3 w) (field 25 7 w)

-- every mnemonic, in the table's order
abbrev pub mnemonics : List Mnemonic
mnemonics =
    Add ∷ Sub ∷ Sll ∷ Slt ∷ Sltu ∷ Xor ∷ Srl ∷ Sra ∷ Or ∷ And ∷
    Addi ∷ Slli ∷ Slti ∷ Sltiu ∷ Xori ∷ Srli ∷ Srai ∷ Ori ∷ Andi ∷
    Lui ∷ Auipc ∷ Lb ∷ Lh ∷ Lw ∷ Lbu ∷ Lhu ∷ Sb ∷ Sh ∷ Sw ∷ Jal ∷ Jalr ∷
    Beq ∷ Bne ∷ Blt ∷ Bge ∷ Bltu ∷ Bgeu ∷ []

-- the first of some mnemonics that the word's codes select
abbrev pub chosen : List Mnemonic → ℕ → Option Mnemonic
chosen ms w = find (λ m. selects m w) ms

abbrev pub read_as : Option Mnemonic → ℕ → Option Instruction
read_as None w = None
read_as (Some m) w = Some (in_format (row_of m).format m w)

-- the instruction that the word w is, or that it is none
unfoldable pub reading_of : ℕ → Option Instruction
reading_of w = read_as (chosen mnemonics w) w
