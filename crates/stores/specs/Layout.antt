-- How the words of a memory lie in a row of bytes: lane i of word k is byte 4k + i.
use Rattle.std.specs.Prelude.{ℕ, ◌+◌, ◌*◌, ◌/◌, ◌%◌, ◌^◌, Bool, ◌&&◌, cond, List, length, nat_lt, slice_index, slice_set}
use Rattle.memory.specs.declared.kind.Kind.{Kind}
use Rattle.memory.specs.Lanes.{lane, named, of_lanes}
use Rattle.memory.specs.Rest.{Rest, hidden}
use Rattle.stores.specs.Cells.{numbered, kind_in_cells, word_in_cells, shared_cells}

-- whether k is a word number, and n bytes hold all four of word k
abbrev pub whole : ℕ → ℕ → Bool
whole n k = numbered k && nat_lt (4 * k + 3) n

-- a place of the list counts as what fits a byte, so that a word has 32 bits whatever the list holds
abbrev pub word_at : List ℕ → ℕ → ℕ
word_at bs k = of_lanes (slice_index bs (4 * k) % 2 ^ 8) (slice_index bs (4 * k + 1) % 2 ^ 8) (slice_index bs (4 * k + 2) % 2 ^ 8) (slice_index bs (4 * k + 3) % 2 ^ 8)

-- the words that are there are all of one kind
abbrev pub kind_in_layout : Kind → List ℕ → ℕ → Kind
kind_in_layout = kind_in_cells whole

-- a word that is absent counts as 0
abbrev pub word_in : List ℕ → ℕ → ℕ
word_in = word_in_cells whole word_at

-- the bytes that belong to no word, and 0 elsewhere
abbrev pub outside : List ℕ → ℕ → ℕ
outside bs = hidden (λ i. whole (length bs) (i / 4)) (λ i. slice_index bs i)

-- what no write changes of bytes that are lent to be read only: where they are, how many, and those that belong to no word
abbrev pub shared_bytes : ℕ × ℕ → List ℕ → Rest
shared_bytes = shared_cells outside

-- the bytes with lane i of word k taken from v, if the mask names it
abbrev pub with_lane : List ℕ → ℕ → ℕ → ℕ → ℕ → List ℕ
with_lane bs k v mask i = cond (named i mask) (slice_set bs (4 * k + i) (lane i v)) bs

abbrev pub with_lanes : List ℕ → ℕ → ℕ → ℕ → List ℕ
with_lanes bs k v mask = with_lane (with_lane (with_lane (with_lane bs k v mask 0) k v mask 1) k v mask 2) k v mask 3
