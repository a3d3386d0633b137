-- How a word is read: as the mnemonic whose row has its codes, with each operand where the row's format has it.
use Rattle.std.specs.Prelude.{◌≡◌, ℕ}
use Rattle.bits.specs.Field.{field}
use Rattle.isa.specs.declared.instruction.Instruction.{Instruction}
use Rattle.isa.specs.declared.mnemonic.Mnemonic.{Mnemonic}
use Rattle.isa.specs.declared.mnemonic.Format.{Format}
use Rattle.isa.specs.declared.mnemonic.Format.TheVariants.{Register, Immediate, Shift, Store, Branch, Upper, Jump}
use Rattle.isa.specs.Immediates.{immediate_of}
use Rattle.isa.specs.Table.{row_of, Selects}

-- 0 for a register that the format lacks
abbrev pub rd_of : Format → ℕ → ℕ
rd_of Register w = field 7 5 w
rd_of Immediate w = field 7 5 w
rd_of Shift w = field 7 5 w
rd_of Store w = 0
rd_of Branch w = 0
rd_of Upper w = field 7 5 w
rd_of Jump w = field 7 5 w

abbrev pub rs1_of : Format → ℕ → ℕ
rs1_of Register w = field 15 5 w
rs1_of Immediate w = field 15 5 w
rs1_of Shift w = field 15 5 w
rs1_of Store w = field 15 5 w
rs1_of Branch w = field 15 5 w
rs1_of Upper w = 0
rs1_of Jump w = 0

abbrev pub rs2_of : Format → ℕ → ℕ
rs2_of Register w = field 20 5 w
rs2_of Immediate w = 0
rs2_of Shift w = 0
rs2_of Store w = field 20 5 w
rs2_of Branch w = field 20 5 w
rs2_of Upper w = 0
rs2_of Jump w = 0

-- the mnemonic m with the operands that the format f has in w
abbrev pub in_format : Format → Mnemonic → ℕ → Instruction
in_format f m w = record { mnemonic = m; rd = rd_of f w; rs1 = rs1_of f w; rs2 = rs2_of f w; immediate = immediate_of f w }

-- the word w reads as the instruction i
pub record Reads (w : ℕ) (i : Instruction) : Type 0 where
  pub selected : Selects i.mnemonic (field 0 7 w) (field 12 3 w) (field 25 7 w)
  pub operands : i ≡ in_format (row_of i.mnemonic).format i.mnemonic w
