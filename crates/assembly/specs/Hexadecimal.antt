-- Numbers in lower-case hexadecimal digits.
use Rattle.std.specs.Prelude.{ℕ, ◌+◌, ◌/◌, ◌%◌, ◌^◌, cond, List, [], ◌∷◌, map, ◌==◌, nat_lt}
use Rattle.std.specs.Int.Digits.{digits_of}

-- the character of a digit: '0' is 48, and 'a' is 97
abbrev pub glyph : ℕ → ℕ
glyph d = cond (nat_lt d 10) (48 + d) (87 + d)

-- the eight digits of a number of 32 bits
abbrev pub eight_digits : ℕ → List ℕ
eight_digits n =
    glyph (n / 2 ^ 28 % 16) ∷ glyph (n / 2 ^ 24 % 16) ∷ glyph (n / 2 ^ 20 % 16) ∷ glyph (n / 2 ^ 16 % 16)
    ∷ glyph (n / 2 ^ 12 % 16) ∷ glyph (n / 2 ^ 8 % 16) ∷ glyph (n / 2 ^ 4 % 16) ∷ glyph (n % 16) ∷ []

-- n without leading zeros: its digits in base 16, the highest first, of which 0 has none but is still written
unfoldable pub hexadecimal : ℕ → List ℕ
hexadecimal n = cond (n == 0) (glyph 0 ∷ []) (map glyph (digits_of 16 n))
