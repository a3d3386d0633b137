-- The lines of a text. A line ends in byte 10 or at the end of the text; one byte 13 directly before that byte 10 belongs to the ending.
use Rattle.std.specs.Prelude.{◌≡◌, ℕ, zero, suc, ◌+◌, ◌-◌, Bool, true, false, not, List, [], ◌∷◌, ◌++◌, length, take, drop, position, codes, ◌==◌, if◌then◌else◌}
use Rattle.std.specs.List.{list_all}
use Rattle.std.specs.Option.{option_map_or}
use Rattle.commands.specs.Texts.{ends}

-- less the one byte 13 at its end, if there is one
abbrev pub without_return : List ℕ → List ℕ
without_return line = if ends line (codes "\r") then take (length line - 1) line else line

-- what stands before the first byte 10, or all
abbrev pub first_line : List ℕ → List ℕ
first_line text = option_map_or (λ end. without_return (take end text)) (position (λ byte. byte == 10) text) text

-- what stands after the first byte 10, or nothing
abbrev pub after_first_line : List ℕ → List ℕ
after_first_line text = option_map_or (λ end. drop (end + 1) text) (position (λ byte. byte == 10) text) []

-- the first n lines of a text, or as many as it has
unfoldable pub lines_of_first : ℕ → List ℕ → List (List ℕ)
lines_of_first zero text = []
lines_of_first (suc n) [] = []
lines_of_first (suc n) (c ∷ cs) = first_line (c ∷ cs) ∷ lines_of_first n (after_first_line (c ∷ cs))

-- the lines of a text: it has no more of them than bytes
abbrev pub lines : List ℕ → List (List ℕ)
lines text = lines_of_first (length text) text

-- no byte 10 stands in it
abbrev pub one_line : List ℕ → Bool
one_line text = list_all (λ byte. not (byte == 10)) text

-- a text is a line with its ending, and what stands behind it; a byte 13 directly before the byte 10 belongs to the ending
pub data Splits : List ℕ → List ℕ → List ℕ → Type 0 where
  newline : {line rest : List ℕ} → one_line line ≡ true → ends line (codes "\r") ≡ false → Splits (line ++ (10 ∷ rest)) line rest
  returned : {line rest : List ℕ} → one_line line ≡ true → Splits (line ++ (13 ∷ 10 ∷ rest)) line rest
  last : {line : List ℕ} → one_line line ≡ true → Splits line line []
