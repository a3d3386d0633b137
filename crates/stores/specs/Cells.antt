-- The words of a memory in a row of cells: bytes, or whole words.
use Rattle.std.specs.Prelude.{◌≡◌, ℕ, ◌^◌, ◌<◌, ◌≤◌, Bool, true, false, cond, ◌&&◌, ltb, List, length, nat_lt}
use Rattle.std.proofs.Common.{◌≢◌, arith, le-ltb}
use Rattle.memory.specs.declared.kind.Kind.{Kind}
use Rattle.memory.specs.declared.kind.Kind.TheVariants.{Absent}
use Rattle.memory.specs.Lanes.{merged}
use Rattle.memory.specs.Rest.{Rest, lent, shared}

-- k is a word number
abbrev pub numbered : ℕ → Bool
numbered k = nat_lt k (2 ^ 30)

pub not_numbered : (k : ℕ) (b : Bool) → 2 ^ 30 ≤ k → (numbered k && b) ≡ false
not_numbered k b h = let e : ltb k (2 ^ 30) ≡ false = le-ltb k _ h in rw e

-- what is so of every kind of cell
pub record CellLaws {C : Type 0} (holds : ℕ → ℕ → Bool) (word_at : List C → ℕ → ℕ) (with_lanes : List C → ℕ → ℕ → ℕ → List C) (spare : List C → ℕ → ℕ) : Type 0 where
  -- no cells hold a word of number 2^30 or above
  pub high : (n k : ℕ) → 2 ^ 30 ≤ k → holds n k ≡ false
  -- a word has 32 bits
  pub fits : (cells : List C) (k : ℕ) → word_at cells k < 2 ^ 32
  -- where the lanes of a word that is there are put, that word has them, and all else is as it was
  pub same_length : (cells : List C) (k v mask : ℕ) → length (with_lanes cells k v mask) ≡ length cells
  pub this_word : (cells : List C) (k v mask : ℕ) → holds (length cells) k ≡ true → word_at (with_lanes cells k v mask) k ≡ merged mask v (word_at cells k)
  pub other_word : (cells : List C) (k v mask j : ℕ) → j ≢ k → word_at (with_lanes cells k v mask) j ≡ word_at cells j
  pub same_spare : (cells : List C) (k v mask i : ℕ) → holds (length cells) k ≡ true → spare (with_lanes cells k v mask) i ≡ spare cells i

module _ {C : Type 0} (holds : ℕ → ℕ → Bool) where
  -- the words that are there are all of one kind
  abbrev pub kind_in_cells : Kind → List C → ℕ → Kind
  kind_in_cells there cells k = cond (holds (length cells) k) there Absent

  -- a word that is absent counts as 0
  abbrev pub word_in_cells : (List C → ℕ → ℕ) → List C → ℕ → ℕ
  word_in_cells word_at cells k = cond (holds (length cells) k) (word_at cells k) 0

  -- the cells after a write to word k: a refused one changes nothing
  abbrev pub cells_after : (List C → ℕ → ℕ → ℕ → List C) → List C → ℕ → ℕ → ℕ → List C
  cells_after with_lanes cells k v mask = cond (nat_lt 15 mask) cells (cond (holds (length cells) k) (with_lanes cells k v mask) cells)

module _ {C : Type 0} (spare : List C → ℕ → ℕ) where
  -- what no write to lent cells changes: whose they are, how many, and what belongs to no word
  abbrev pub lent_cells : ℕ → List C → Rest
  lent_cells name cells = lent name (length cells) (spare cells)

  -- the same of cells that are lent to be read only, which have no such name and are known by where they are
  abbrev pub shared_cells : ℕ × ℕ → List C → Rest
  shared_cells place cells = shared place (length cells) (spare cells)

module _ {C : Type 0} {holds : ℕ → ℕ → Bool} {word_at : List C → ℕ → ℕ} {with_lanes : List C → ℕ → ℕ → ℕ → List C} {spare : List C → ℕ → ℕ} (laws : CellLaws holds word_at with_lanes spare) (cells : List C) where
  pub cells_high : (there : Kind) (k : ℕ) → 2 ^ 30 ≤ k → kind_in_cells holds there cells k ≡ Absent
  cells_high there k h = rw (laws.high (length cells) k h)

  pub cells_fit : (k : ℕ) → word_in_cells holds word_at cells k < 2 ^ 32
  cells_fit k = elim (holds (length cells) k) as (λ b. cond b (word_at cells k) 0 < 2 ^ 32) [ true ↦ laws.fits cells k | false ↦ omega arith ]
