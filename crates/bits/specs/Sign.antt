-- Two's complement: a number x of `width` bits, 1 to 32 of them, that is x < 2 ^ width.
use Rattle.std.specs.Prelude.{ℕ, ◌+◌, ◌-◌, ◌*◌, ◌/◌, ◌^◌, ℤ, pos, ◌-ℤ◌}

-- its top bit
abbrev pub top_of : ℕ → ℕ → ℕ
top_of width x = x / 2 ^ (width - 1)

-- its sign extension to 32 bits: each of the bits from `width` up is the top bit
abbrev pub extended : ℕ → ℕ → ℕ
extended width x = x + top_of width x * (2 ^ 32 - 2 ^ width)

-- the number that it stands for: a top bit that is set takes away 2 ^ width
abbrev pub signed_of : ℕ → ℕ → ℤ
signed_of width x = pos x -ℤ pos (top_of width x * 2 ^ width)
