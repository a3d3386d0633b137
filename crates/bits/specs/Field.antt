-- Fields of a word.
use Rattle.std.specs.Prelude.{ℕ, ◌/◌, ◌%◌, ◌^◌}

-- the bits of w from bit lo up, width of them, as a number
abbrev pub field : ℕ → ℕ → ℕ → ℕ
field lo width w = w / 2 ^ lo % 2 ^ width
