-- The lines of a listing. Byte 10 ends each.
use Rattle.std.specs.Prelude.{ℕ, List, ◌++◌, Ok, Err, codes, decimal, Result}
use Rattle.isa.specs.declared.instruction.Instruction.{Instruction}
use Rattle.isa.specs.declared.refusal.Refusal.{Refusal}
use Rattle.assembly.specs.Assembly.{text_of}
use Rattle.assembly.specs.Hexadecimal.{eight_digits}

-- an address, the word there, and what it reads as
abbrev pub line_of : ℕ → ℕ → List ℕ → List ℕ
line_of address word text = eight_digits address ++ (codes " " ++ (eight_digits word ++ (codes " " ++ (text ++ codes "\n"))))

-- the text of what a word reads as
abbrev pub reading_of : Result Instruction Refusal → List ℕ
reading_of (Ok i) = text_of i
reading_of (Err e) = codes "no instruction"

-- how many words there are, and how many of them read as an instruction
abbrev pub summary_of : ℕ → ℕ → List ℕ
summary_of words instructions = decimal words ++ (codes " words, " ++ (decimal instructions ++ codes " instructions\n"))

-- the number of a refusal
abbrev pub refused_of : ℕ → List ℕ
refused_of number = codes "file " ++ (decimal number ++ codes "\n")
