-- That words keep the laws of cells: the proof, of which no contract reads more than its end.
use Rattle.std.proofs.Common.{◌≡◌, ℕ, ◌%◌, ◌^◌, ◌<◌, true, List, length, get_or, arith}
use Rattle.std.proofs.lemmas.Bool.{ltb-true}
use Rattle.std.proofs.lemmas.Grind.{common_steps}
use Rattle.memory.proofs.FourLanes.{each_lane}
use Rattle.memory.specs.Lanes.{lane, taken, merged}
use Rattle.stores.specs.Bank.{within, placed_at, spare, with_word}
use Rattle.stores.specs.Cells.{CellLaws, not_numbered}

-- a word that is put together fits, and takes no more than 32 bits of the old one
module _ (mask v w : ℕ) where
  merged_below : merged mask v w < 2 ^ 32
  merged_below = (each_lane mask v w).0

  taken_low : (i : ℕ) → lane i (w % 2 ^ 32) ≡ lane i w → taken mask v (w % 2 ^ 32) i ≡ taken mask v w i
  taken_low i e = rw e

  merged_low : merged mask v (w % 2 ^ 32) ≡ merged mask v w
  merged_low = rw (taken_low 0 (omega arith), taken_low 1 (omega arith), taken_low 2 (omega arith), taken_low 3 (omega arith))

-- a word that is there has a place
placed : (n k : ℕ) → within n k ≡ true → k < n
placed n k h = grind (arith, ltb-true)

module _ (ws : List ℕ) (k v mask : ℕ) where
  same_length : length (with_word ws k v mask) ≡ length ws
  same_length = grind (arith, common_steps)

  this_word : within (length ws) k ≡ true → placed_at (with_word ws k v mask) k ≡ merged mask v (placed_at ws k)
  this_word w =
      let p : k < length ws = placed (length ws) k w in
      let below : merged mask v (get_or ws k 0) < 2 ^ 32 = merged_below mask v (get_or ws k 0) in
      rw (merged_low mask v (get_or ws k 0)) (grind (arith, common_steps))

  same_spare : (j : ℕ) → within (length ws) k ≡ true → spare (with_word ws k v mask) j ≡ spare ws j
  same_spare j w = rw same_length (grind (arith, common_steps))

pub word_laws : CellLaws within placed_at with_word spare
word_laws = record {
  high = λ n k. not_numbered k _;
  fits = λ ws k. omega arith;
  same_length = same_length;
  this_word = this_word;
  other_word = λ ws k v mask j n. grind (arith, common_steps);
  same_spare = same_spare;
}
