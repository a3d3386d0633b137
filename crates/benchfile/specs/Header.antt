-- The header: the bytes that stand before an image.
use Rattle.std.specs.Prelude.{ℕ, ◌/◌, ◌%◌, List, [], ◌∷◌, ◌++◌}

-- the four bytes of a number, the lowest first
abbrev pub bytes_of : ℕ → List ℕ
bytes_of n = n % 256 ∷ n / 256 % 256 ∷ n / 65536 % 256 ∷ n / 16777216 % 256 ∷ []

-- RVB, the version 1, three zeros, and the four numbers
abbrev pub header_of : ℕ → ℕ → ℕ → ℕ → List ℕ
header_of start base size limit =
    (82 ∷ 86 ∷ 66 ∷ 1 ∷ 0 ∷ 0 ∷ 0 ∷ 0 ∷ []) ++ bytes_of start ++ bytes_of base ++ bytes_of size ++ bytes_of limit
