-- The 32 registers as a list of numbers, x0 first.
use Rattle.std.specs.Prelude.{ℕ, Bool, cond, ◌&&◌, List, ltb, get_or, set}

-- made from any numbers, but x0 is 0
abbrev pub made_of : List ℕ → List ℕ
made_of xs = set xs 0 0

-- a register that can be written: x1 to x31
abbrev pub writable : ℕ → Bool
writable n = ltb 0 n && ltb n 32

-- the number in register n: x0 is 0
abbrev pub value_of : List ℕ → ℕ → ℕ
value_of xs n = cond (writable n) (get_or xs n 0) 0

-- the registers after v is written to register n: a write to x0 does nothing
abbrev pub put_into : List ℕ → ℕ → ℕ → List ℕ
put_into xs n v = cond (writable n) (set xs n v) xs
