-- The words of a memory in a row of words: word k stands at place k.
use Rattle.std.specs.Prelude.{ℕ, ◌%◌, ◌^◌, Bool, ◌&&◌, List, length, nat_lt, slice_index, slice_set}
use Rattle.memory.specs.declared.kind.Kind.{Kind}
use Rattle.memory.specs.declared.kind.Kind.TheVariants.{Open}
use Rattle.memory.specs.Lanes.{merged}
use Rattle.memory.specs.Rest.{hidden}
use Rattle.stores.specs.Cells.{numbered, kind_in_cells, word_in_cells}

-- whether k is a word number, and n words have a place k
abbrev pub within : ℕ → ℕ → Bool
within n k = numbered k && nat_lt k n

-- a place of the list counts as what fits 32 bits, whatever it holds
abbrev pub placed_at : List ℕ → ℕ → ℕ
placed_at ws k = slice_index ws k % 2 ^ 32

abbrev pub bank_kind : List ℕ → ℕ → Kind
bank_kind = kind_in_cells within Open

-- a word that is absent counts as 0
abbrev pub bank_word : List ℕ → ℕ → ℕ
bank_word = word_in_cells within placed_at

-- the places past the last word number, and 0 elsewhere
abbrev pub spare : List ℕ → ℕ → ℕ
spare ws = hidden (λ k. within (length ws) k) (λ k. slice_index ws k)

-- the words with the lanes of word k that the mask names taken from v
abbrev pub with_word : List ℕ → ℕ → ℕ → ℕ → List ℕ
with_word ws k v mask = slice_set ws k (merged mask v (slice_index ws k))
