-- Words and instructions, one for one.
use Rattle.std.specs.Prelude.{◌≡◌, ℕ, ◌^◌, ◌<◌}
use Rattle.isa.specs.declared.instruction.Instruction.{Instruction}
use Rattle.isa.specs.Fitting.{Fits}
use Rattle.isa.specs.Reading.{Reads}

-- the word w reads as at most one instruction
abbrev pub OneInstruction : ℕ → Type 0
OneInstruction w = (i j : Instruction) → Reads w i → Reads w j → i ≡ j

-- if the instruction i fits, exactly one word of 32 bits reads as it; and only an instruction that fits has a word
pub record OneWord (i : Instruction) : Type 0 where
  pub exists : Fits i → (w : ℕ) × (w < 2 ^ 32) × Reads w i
  pub unique : (v w : ℕ) → v < 2 ^ 32 → w < 2 ^ 32 → Reads v i → Reads w i → v ≡ w
  pub fitting : (w : ℕ) → w < 2 ^ 32 → Reads w i → Fits i
