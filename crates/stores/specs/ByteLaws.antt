-- That bytes keep the laws of cells: the proof, of which no contract reads more than its end.
use Rattle.std.proofs.Common.{◌≡◌, ℕ, ◌+◌, ◌*◌, ◌/◌, ◌%◌, ◌^◌, ◌<◌, true, cond, ◌≢◌, List, length, get_or, arith}
use Rattle.std.proofs.lemmas.Bool.{ltb-true}
use Rattle.std.proofs.lemmas.Grind.{common_steps}
use Rattle.memory.specs.Lanes.{lane, named, taken, merged}
use Rattle.stores.specs.Cells.{CellLaws, not_numbered}
use Rattle.stores.specs.Layout.{whole, word_at, outside, with_lane, with_lanes}

-- the four bytes of a word that is there
pub four_there : (n k : ℕ) → whole n k ≡ true → 4 * k + 3 < n
four_there n k h = grind (arith, ltb-true)

module _ (bs : List ℕ) (k v mask : ℕ) where
  lane_length : (xs : List ℕ) (i : ℕ) → length (with_lane xs k v mask i) ≡ length xs
  lane_length xs i = grind (arith, common_steps)

  pub lanes_length : length (with_lanes bs k v mask) ≡ length bs
  lanes_length = simp lane_length

  pub lanes_other : (j : ℕ) → j / 4 ≢ k → get_or (with_lanes bs k v mask) j 0 ≡ get_or bs j 0
  lanes_other j n = grind (arith, common_steps)

  -- each byte of the word is put if the mask names it
  module _ (there : 4 * k + 3 < length bs) where
    pub byte0 : get_or (with_lanes bs k v mask) (4 * k) 0 ≡ cond (named 0 mask) (lane 0 v) (get_or bs (4 * k) 0)
    byte0 = grind (arith, common_steps)

    pub byte1 : get_or (with_lanes bs k v mask) (4 * k + 1) 0 ≡ cond (named 1 mask) (lane 1 v) (get_or bs (4 * k + 1) 0)
    byte1 = grind (arith, common_steps)

    pub byte2 : get_or (with_lanes bs k v mask) (4 * k + 2) 0 ≡ cond (named 2 mask) (lane 2 v) (get_or bs (4 * k + 2) 0)
    byte2 = grind (arith, common_steps)

    pub byte3 : get_or (with_lanes bs k v mask) (4 * k + 3) 0 ≡ cond (named 3 mask) (lane 3 v) (get_or bs (4 * k + 3) 0)
    byte3 = grind (arith, common_steps)

    -- so its lane is that of the merged word
    lane0 : get_or (with_lanes bs k v mask) (4 * k) 0 % 2 ^ 8 ≡ taken mask v (word_at bs k) 0
    lane0 = rw byte0 (grind arith)

    lane1 : get_or (with_lanes bs k v mask) (4 * k + 1) 0 % 2 ^ 8 ≡ taken mask v (word_at bs k) 1
    lane1 = rw byte1 (grind arith)

    lane2 : get_or (with_lanes bs k v mask) (4 * k + 2) 0 % 2 ^ 8 ≡ taken mask v (word_at bs k) 2
    lane2 = rw byte2 (grind arith)

    lane3 : get_or (with_lanes bs k v mask) (4 * k + 3) 0 % 2 ^ 8 ≡ taken mask v (word_at bs k) 3
    lane3 = rw byte3 (grind arith)

    this_word : word_at (with_lanes bs k v mask) k ≡ merged mask v (word_at bs k)
    this_word = rw (lane0, lane1, lane2, lane3)

  other_word : (j : ℕ) → j ≢ k → word_at (with_lanes bs k v mask) j ≡ word_at bs j
  other_word j n = rw (lanes_other (4 * j) (omega arith), lanes_other (4 * j + 1) (omega arith), lanes_other (4 * j + 2) (omega arith), lanes_other (4 * j + 3) (omega arith))

  -- a byte that belongs to no word is none of a word that is there
  same_spare : (i : ℕ) → whole (length bs) k ≡ true → outside (with_lanes bs k v mask) i ≡ outside bs i
  same_spare i w = rw lanes_length (grind (arith, lanes_other))

pub byte_laws : CellLaws whole word_at with_lanes outside
byte_laws = record {
  high = λ n k. not_numbered k _;
  fits = λ bs k. omega arith;
  same_length = lanes_length;
  this_word = λ bs k v mask w. this_word bs k v mask (four_there (length bs) k w);
  other_word = other_word;
  same_spare = same_spare;
}
