-- What a write leaves in a row of cells, as words, from the laws of the cells.
-- Assumes nothing.
use Rattle.std.proofs.Common.{◌≡◌, ℕ, Bool, List, length, ap, arith}
use mathlib.Core.Path.{fun_ext}
use Rattle.memory.specs.declared.kind.Kind.TheVariants.{Open}
use Rattle.memory.specs.Meaning.{patched}
use Rattle.memory.specs.Rest.{lent}
use Rattle.stores.specs.Cells.{CellLaws, kind_in_cells, word_in_cells, cells_after, lent_cells}

module _ {C : Type 0} {holds : ℕ → ℕ → Bool} {word_at : List C → ℕ → ℕ} {with_lanes : List C → ℕ → ℕ → ℕ → List C} {spare : List C → ℕ → ℕ} (laws : CellLaws holds word_at with_lanes spare) (cells : List C) (k v mask : ℕ) where
  pub after_length : length (cells_after holds with_lanes cells k v mask) ≡ length cells
  after_length = grind (arith, laws.same_length)

  pub after_words : (j : ℕ) → word_in_cells holds word_at (cells_after holds with_lanes cells k v mask) j ≡ patched (kind_in_cells holds Open cells) (word_in_cells holds word_at cells) k v mask j
  after_words j = rw after_length (grind (arith, laws.this_word, laws.other_word))

  pub write_after : (new : List C) → new ≡ cells_after holds with_lanes cells k v mask → (j : ℕ) → word_in_cells holds word_at new j ≡ patched (kind_in_cells holds Open cells) (word_in_cells holds word_at cells) k v mask j
  write_after new exact j = rw exact (after_words j)

  -- no write changes what belongs to no word
  pub after_spare : (i : ℕ) → spare (cells_after holds with_lanes cells k v mask) i ≡ spare cells i
  after_spare i = grind (arith, laws.same_spare)

  pub rest_after : (name : ℕ) (new : List C) → new ≡ cells_after holds with_lanes cells k v mask → lent_cells spare name new ≡ lent_cells spare name cells
  rest_after name new exact = rw (exact, after_length) (ap (λ (s : ℕ → ℕ). lent name (length cells) s) (fun_ext after_spare))

-- a write to lent cells
pub ruleset written_cells = (write_after, rest_after)
