-- The word of an instruction.
use Rattle.std.specs.Prelude.{ℕ, zero, suc, ◌^◌, Bool, ◌&&◌, ◌==◌, if◌then◌else◌}
use Rattle.std.specs.Ordering.{int_eq}
use Rattle.isa.specs.Decoding.{selects}
use Rattle.isa.specs.Immediates.{immediate_of}
use Rattle.isa.specs.Reading.{rd_of, rs1_of, rs2_of}
use Rattle.isa.specs.Table.{row_of}
use Rattle.isa.specs.declared.instruction.Instruction.{Instruction}
use Rattle.isa.specs.declared.mnemonic.Format.{Format}

-- the operands that a format has in the word w are those of the instruction
abbrev pub operands_are : Format → Instruction → ℕ → Bool
operands_are f i w = rd_of f w == i.rd && (rs1_of f w == i.rs1 && (rs2_of f w == i.rs2 && int_eq (immediate_of f w) i.immediate))

-- whether the word w reads as the instruction
abbrev pub reads_as : Instruction → ℕ → Bool
reads_as i w = selects i.mnemonic w && operands_are (row_of i.mnemonic).format i w

-- the highest number below n that passes a test; 0 if none does
unfoldable pub highest_below : ℕ → (ℕ → Bool) → ℕ
highest_below zero test = 0
highest_below (suc n) test = if test n then n else highest_below n test

-- the one word of 32 bits that reads as the instruction; 0, which is no instruction, if there is none
unfoldable pub word_of : Instruction → ℕ
word_of i = highest_below (2 ^ 32) (reads_as i)
