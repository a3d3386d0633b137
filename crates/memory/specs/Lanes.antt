-- The four bytes of a word. Lane 0 is the byte at the lowest address and the least significant.
use Rattle.std.specs.Prelude.{◌≡◌, ℕ, ◌+◌, ◌*◌, ◌/◌, ◌%◌, ◌^◌, ◌<◌, Bool, cond, ◌==◌}

abbrev pub lane : ℕ → ℕ → ℕ
lane i w = w / 2 ^ (8 * i) % 2 ^ 8

-- bit i of the mask stands for lane i
abbrev pub named : ℕ → ℕ → Bool
named i mask = mask / 2 ^ i % 2 == 1

-- the word of four bytes
abbrev pub of_lanes : ℕ → ℕ → ℕ → ℕ → ℕ
of_lanes a b c d = a + b * 2 ^ 8 + c * 2 ^ 16 + d * 2 ^ 24

-- lane i of the word w where the lanes that the mask names are taken from v
abbrev pub taken : ℕ → ℕ → ℕ → ℕ → ℕ
taken mask v w i = cond (named i mask) (lane i v) (lane i w)

abbrev pub merged : ℕ → ℕ → ℕ → ℕ
merged mask v w = of_lanes (taken mask v w 0) (taken mask v w 1) (taken mask v w 2) (taken mask v w 3)

-- r has exactly the masked lanes of v, and the other lanes of w
abbrev pub EachLane : ℕ → ℕ → ℕ → ℕ → Type 0
EachLane mask v w r = (r < 2 ^ 32) × ((i : ℕ) → i < 4 → lane i r ≡ taken mask v w i)
