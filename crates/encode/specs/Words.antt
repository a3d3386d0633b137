-- The words of the instructions of one format.
use Rattle.std.specs.Prelude.{◌≡◌, ℕ, ◌-◌, ◌^◌, ◌<◌, ℤ, pos, negsuc, ◌≤ℤ◌, ◌<ℤ◌, Ok, Result, MatchResult}
use Rattle.bits.specs.Field.{field}
use Rattle.isa.specs.declared.instruction.Instruction.{Instruction}
use Rattle.isa.specs.declared.mnemonic.Format.{Format}
use Rattle.isa.specs.declared.refusal.Refusal.{Refusal}
use Rattle.isa.specs.declared.table.Row.{Row}
use Rattle.isa.specs.Fitting.{FitsFormat}
use Rattle.isa.specs.Reading.{in_format}
use Rattle.isa.specs.Refusals.{number_of}
use Rattle.isa.specs.Table.{Agrees}

-- z is a signed number of `width` bits
abbrev pub Within : ℕ → ℤ → Type 0
Within width z = (negsuc (2 ^ (width - 1) - 1) ≤ℤ z) × (z <ℤ pos (2 ^ (width - 1)))

-- the word w has the codes of the row r and, in the format f, the operands of i
pub record Carries (f : Format) (r : Row) (i : Instruction) (w : ℕ) : Type 0 where
  pub word : w < 2 ^ 32
  pub codes : Agrees f r (field 0 7 w) (field 12 3 w) (field 25 7 w)
  pub operands : i ≡ in_format f i.mnemonic w

-- the answer a is the word that carries i, if there is one
abbrev pub Only : Format → Row → Instruction → Result ℕ Refusal → Type 0
Only f r i a = (v : ℕ) → Carries f r i v → a ≡ Ok v

-- the answer a is a word that carries i, which fits the format, or else the refusal 10
abbrev pub Written : Format → Row → Instruction → Result ℕ Refusal → Type 0
Written f r i a = MatchResult a (λ w. Carries f r i w × FitsFormat f i) (λ e. (number_of e ≡ 10) × (FitsFormat f i → ⊥))

-- the word w has the row's opcode and funct3, the registers d, s and t, and g as its funct7
pub record Filled (r : Row) (d s t g w : ℕ) : Type 0 where
  pub opcode : field 0 7 w ≡ r.opcode
  pub rd : field 7 5 w ≡ d
  pub funct3 : field 12 3 w ≡ r.funct3
  pub rs1 : field 15 5 w ≡ s
  pub rs2 : field 20 5 w ≡ t
  pub funct7 : field 25 7 w ≡ g

-- the word w has the row's opcode, the register d, and u in the bits above them
pub record FilledUpper (r : Row) (d u w : ℕ) : Type 0 where
  pub opcode : field 0 7 w ≡ r.opcode
  pub rd : field 7 5 w ≡ d
  pub upper : field 12 20 w ≡ u
