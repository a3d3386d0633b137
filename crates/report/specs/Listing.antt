-- A listing: the lines of words that stand one after another, and then the line of the counts.
use Rattle.std.specs.Prelude.{◌≡◌, ℕ, ◌+◌, ◌%◌, ◌^◌, List, [], ◌∷◌, ◌++◌, length, codes}
use Rattle.isa.specs.Reading.{Reads}
use Rattle.isa.specs.declared.instruction.Instruction.{Instruction}
use Rattle.assembly.specs.Assembly.{text_of}
use Rattle.report.specs.Lines.{line_of, summary_of}

-- the text is the lines of the words, the first of them at the address, and the count is how many of them read as an instruction
pub data Listed : ℕ → List ℕ → List ℕ → ℕ → Type 0 where
  nothing : {address : ℕ} → Listed address [] [] 0
  instruction : {address word : ℕ} {words text : List ℕ} {count : ℕ} (i : Instruction) → Reads word i → Listed ((address + 4) % 2 ^ 32) words text count → Listed address (word ∷ words) (line_of address word (text_of i) ++ text) (count + 1)
  none : {address word : ℕ} {words text : List ℕ} {count : ℕ} → ((i : Instruction) → Reads word i → ⊥) → Listed ((address + 4) % 2 ^ 32) words text count → Listed address (word ∷ words) (line_of address word (codes "no instruction") ++ text) count

-- the text after is the text before and the lines of the words, the first of them at the base
pub record Adds (base : ℕ) (words before after : List ℕ) (instructions : ℕ) : Type 0 where
  pub lines : List ℕ
  pub longer : after ≡ before ++ lines
  pub listed : Listed base words lines instructions

-- the bytes are the listing of the words, the first of them at the base
pub record Lists (base : ℕ) (words bytes : List ℕ) : Type 0 where
  pub lines : List ℕ
  pub instructions : ℕ
  pub listed : Listed base words lines instructions
  pub whole : bytes ≡ lines ++ summary_of (length words) instructions
