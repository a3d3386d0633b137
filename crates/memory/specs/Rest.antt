-- All of a memory that no write changes, besides the kinds of its words: whose storage it borrows, what of that belongs
-- to no word, the settings of its layers, and what lies below them and does not show.
use Rattle.std.specs.Prelude.{ℕ, Bool, cond}
use Rattle.memory.specs.declared.kind.Kind.{Kind}

pub data Rest : Type 0 where
  -- the lent storage by name, its length, and what of it belongs to no word
  lent : ℕ → ℕ → (ℕ → ℕ) → Rest
  -- storage that is lent to be read only, by the place where it is (a block, and how far into it), its length, and what of it belongs to no word
  shared : ℕ × ℕ → ℕ → (ℕ → ℕ) → Rest
  -- a layer, or a memory that is lent: its settings or its name, the kinds below it, the words below that do not show, and the rest below
  over : ℕ → ℕ → (ℕ → Kind) → (ℕ → ℕ) → Rest → Rest
  -- two memories, and where the second begins
  beside : ℕ → Rest → Rest → Rest

-- what stands at the places that do not show, and 0 elsewhere
abbrev pub hidden : (ℕ → Bool) → (ℕ → ℕ) → ℕ → ℕ
hidden shows words j = cond (shows j) 0 (words j)

abbrev pub nowhere : ℕ → ℕ
nowhere _ = 0
