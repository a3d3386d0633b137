-- The lanes of a word are put by writing all four bytes of the merged word, one after another.
-- Assumes nothing.
use Rattle.std.proofs.Common.{◌≡◌, ℕ, ◌+◌, ◌*◌, ◌/◌, ◌%◌, ◌^◌, ◌<◌, ◌≤◌, true, eqb, ◌≢◌, List, length, get_or, slice_set, sym, ap, subst, ◌∙◌, inl, inr, arith, below_none, below_more, add-zero, w32}
use Rattle.std.proofs.lemmas.Bool.{cases_Bool, eqb-true, eqb-false}
use Rattle.std.proofs.lemmas.Grind.{common_steps, same_number_lists}
use Rattle.std.specs.Int.{to_le_bytes}
use Rattle.memory.proofs.FourLanes.{each_lane}
use Rattle.memory.specs.Lanes.{merged}
use Rattle.stores.specs.ByteLaws.{four_there, byte0, byte1, byte2, byte3, lanes_length, lanes_other}
use Rattle.stores.specs.Layout.{whole, word_at, with_lanes}

-- four elements, one after another, from a on
module _ (xs : List ℕ) (a b0 b1 b2 b3 : ℕ) (there : a + 3 < length xs) where
  abbrev set : List ℕ
  set = slice_set (slice_set (slice_set (slice_set xs a b0) (a + 1) b1) (a + 2) b2) (a + 3) b3

  set_length : length set ≡ length xs
  set_length = grind (arith, common_steps)

  set_outside : (j : ℕ) → (a ≤ j → j < a + 4 → ⊥) → get_or set j 0 ≡ get_or xs j 0
  set_outside j n = grind (arith, common_steps)

  set_0 : get_or set a 0 ≡ b0
  set_0 = grind (arith, common_steps)

  set_1 : get_or set (a + 1) 0 ≡ b1
  set_1 = grind (arith, common_steps)

  set_2 : get_or set (a + 2) 0 ≡ b2
  set_2 = grind (arith, common_steps)

  set_3 : get_or set (a + 3) 0 ≡ b3
  set_3 = grind (arith, common_steps)

module _ (bs : List ℕ) (k v mask : ℕ) (there : 4 * k + 3 < length bs) (fit : (j : ℕ) → j < 4 → get_or bs (4 * k + j) 0 < 2 ^ 8) where
  abbrev after : List ℕ
  after = to_le_bytes w32 (merged mask v (word_at bs k))

  byte : (i : ℕ) → i < 4 → get_or after i 0 ≡ get_or (with_lanes bs k v mask) (4 * k + i) 0
  byte =
      let P : ℕ → Type 0 = λ i. get_or after i 0 ≡ get_or (with_lanes bs k v mask) (4 * k + i) 0 in
      let lanes = (each_lane mask v (word_at bs k)).1 in
      let get_at : List ℕ → ℕ → ℕ = λ xs i. get_or xs i 0 in
      let f0 : get_or bs (4 * k) 0 < 2 ^ 8 = subst (λ (i : ℕ). get_or bs i 0 < 2 ^ 8) (add-zero (4 * k)) (fit 0 (omega arith)) in
      let f1 = fit 1 (omega arith) in
      let f2 = fit 2 (omega arith) in
      let f3 = fit 3 (omega arith) in
      below_more P 3 (below_more P 2 (below_more P 1 (below_more P 0 (below_none P)
      (let l = lanes 0 (omega arith) in let e : get_or after 0 0 ≡ get_or (with_lanes bs k v mask) (4 * k) 0 = rw (byte0 bs k v mask there) (grind arith) in e ∙ ap (get_at (with_lanes bs k v mask)) (sym (add-zero (4 * k)))))
      (let l = lanes 1 (omega arith) in rw (byte1 bs k v mask there) (grind arith)))
      (let l = lanes 2 (omega arith) in rw (byte2 bs k v mask there) (grind arith)))
      (let l = lanes 3 (omega arith) in rw (byte3 bs k v mask there) (grind arith))

  abbrev put : List ℕ
  put = set bs (4 * k) (get_or after 0 0) (get_or after 1 0) (get_or after 2 0) (get_or after 3 0) there

  put_byte : (i : ℕ) → i < 4 → get_or put (4 * k + i) 0 ≡ get_or (with_lanes bs k v mask) (4 * k + i) 0
  put_byte =
      let P : ℕ → Type 0 = λ i. get_or put (4 * k + i) 0 ≡ get_or (with_lanes bs k v mask) (4 * k + i) 0 in
      let start = ap (λ (i : ℕ). get_or put i 0) (add-zero (4 * k)) in
      below_more P 3 (below_more P 2 (below_more P 1 (below_more P 0 (below_none P)
      (start ∙ set_0 bs (4 * k) _ _ _ _ there ∙ byte 0 (omega arith)))
      (set_1 bs (4 * k) _ _ _ _ there ∙ byte 1 (omega arith)))
      (set_2 bs (4 * k) _ _ _ _ there ∙ byte 2 (omega arith)))
      (set_3 bs (4 * k) _ _ _ _ there ∙ byte 3 (omega arith))

  whole_put : put ≡ with_lanes bs k v mask
  whole_put =
      same_number_lists _ _ (set_length bs (4 * k) _ _ _ _ there ∙ sym (lanes_length bs k v mask)) (λ j h. elim (cases_Bool (eqb (j / 4) k)) [
        | inl t ↦
            let e : j / 4 ≡ k = eqb-true (j / 4) k t in
            let i : j ≡ 4 * k + j % 4 = omega arith in
            rw i (put_byte (j % 4) (omega arith))
        | inr t ↦
            let n : j / 4 ≢ k = eqb-false (j / 4) k t in
            set_outside bs (4 * k) _ _ _ _ there j (λ l h. n (omega arith)) ∙ sym (lanes_other bs k v mask j n)
      ])

-- the same, as the code has it
pub written : (bs : List ℕ) (k v mask m : ℕ) (new : List ℕ) → whole (length bs) k ≡ true → ((j : ℕ) → j < 4 → get_or bs (4 * k + j) 0 < 2 ^ 8) → m ≡ merged mask v (word_at bs k) → new ≡ to_le_bytes w32 m → slice_set (slice_set (slice_set (slice_set bs (4 * k) (get_or new 0 0)) (4 * k + 1) (get_or new 1 0)) (4 * k + 2) (get_or new 2 0)) (4 * k + 3) (get_or new 3 0) ≡ with_lanes bs k v mask
written bs k v mask m new w fit f g = rw (g, f) (whole_put bs k v mask (four_there (length bs) k w) fit)
