-- The lanes of a word that is put together from four bytes.
-- Assumes nothing.
use Rattle.std.proofs.Common.{◌≡◌, ℕ, ◌^◌, ◌<◌, true, false, cond, arith, below_none, below_more}
use Rattle.std.proofs.lemmas.Nat.{mod_below}
use Rattle.memory.specs.Lanes.{lane, named, of_lanes, taken, merged, EachLane}

-- a byte that is taken is a byte
small : (mask v w i : ℕ) → taken mask v w i < 2 ^ 8
small mask v w i = elim (named i mask) as (λ b. cond b (lane i v) (lane i w) < 2 ^ 8) [ true ↦ mod_below _ (2 ^ 8) (omega arith) | false ↦ mod_below _ (2 ^ 8) (omega arith) ]

module _ (a b c d : ℕ) (ha : a < 2 ^ 8) (hb : b < 2 ^ 8) (hc : c < 2 ^ 8) (hd : d < 2 ^ 8) where
  below : of_lanes a b c d < 2 ^ 32
  below = omega arith

  pub lane_0 : lane 0 (of_lanes a b c d) ≡ a
  lane_0 = omega arith

  pub lane_1 : lane 1 (of_lanes a b c d) ≡ b
  lane_1 = omega arith

  pub lane_2 : lane 2 (of_lanes a b c d) ≡ c
  lane_2 = omega arith

  pub lane_3 : lane 3 (of_lanes a b c d) ≡ d
  lane_3 = omega arith

pub each_lane : (mask v w : ℕ) → EachLane mask v w (merged mask v w)
each_lane mask v w =
    let P : ℕ → Type 0 = λ i. lane i (merged mask v w) ≡ taken mask v w i in
    let h0 = small mask v w 0 in
    let h1 = small mask v w 1 in
    let h2 = small mask v w 2 in
    let h3 = small mask v w 3 in (
      below _ _ _ _ h0 h1 h2 h3,
      below_more P 3 (below_more P 2 (below_more P 1 (below_more P 0 (below_none P) (lane_0 _ _ _ _ h0 h1 h2 h3)) (lane_1 _ _ _ _ h0 h1 h2 h3)) (lane_2 _ _ _ _ h0 h1 h2 h3)) (lane_3 _ _ _ _ h0 h1 h2 h3),
    )
