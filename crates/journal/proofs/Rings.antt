-- What a write at the next place, and a step back, are on the list of the entries.
-- Assumes nothing.
use Rattle.std.proofs.Common.{◌≡◌, ℕ, zero, suc, ◌+◌, ◌-◌, ◌%◌, ◌<◌, ◌≤◌, ltb, ◌≢◌, List, ◌∷◌, length, get_or, take, set, min, Some, refl, ap, ap₂, inl, inr, le_of_suc-le-suc, arith, take_all, get_or-set_other, get_or-set_same, ltb-false, ltb-true}
use Rattle.std.proofs.lemmas.Bool.{cases_Bool}
use Rattle.std.proofs.lemmas.Bool.Decides.{nat_tests}
use Rattle.journal.specs.declared.entry.Entry.{Entry}
use Rattle.journal.specs.Entries.{empty, popped, remaining}
use Rattle.journal.specs.Ring.{place_before, behind}

pub behind_length : (es : List Entry) (p n : ℕ) → length (behind es p n) ≡ n
behind_length es p zero = refl
behind_length es p (suc n) = ap suc (behind_length es (place_before p) n)

behind_take : (es : List Entry) (p m n : ℕ) → m ≤ n → take m (behind es p n) ≡ behind es p m
behind_take es p zero zero h = refl
behind_take es p zero (suc n) h = refl
behind_take es p (suc m) zero h = absurd (omega arith)
behind_take es p (suc m) (suc n) h = ap (λ (r : List Entry). get_or es (place_before p) empty ∷ r) (behind_take es (place_before p) m n (le_of_suc-le-suc h))

-- from a place that is i before q, n steps back do not come round to q
behind_other : (es : List Entry) (e : Entry) (q i p n : ℕ) → q ≡ (p + i) % 256 → p < 256 → i + n < 256 → behind (set es q e) p n ≡ behind es p n
behind_other es e q i p zero at low few = refl
behind_other es e q i p (suc n) at low few =
    let ne : place_before p ≢ q = omega arith in
    let next : q ≡ (place_before p + suc i) % 256 = omega arith in
    ap₂ (λ (x : Entry) (r : List Entry). x ∷ r) (get_or-set_other es q (place_before p) e empty ne) (behind_other es e q (suc i) (place_before p) n next (omega arith) (omega arith))

module _ (es : List Entry) (p n : ℕ) (e : Entry) (whole : length es ≡ 256) (low : p < 256) where
  -- one more entry, before at most 255 others
  over : (m : ℕ) → m < 256 → behind (set es p e) ((p + 1) % 256) (suc m) ≡ e ∷ behind es p m
  over m few =
      let home : place_before ((p + 1) % 256) ≡ p = omega arith in
      let here : p < length es = omega arith in
      rw home (ap₂ (λ (x : Entry) (r : List Entry). x ∷ r) (get_or-set_same es p e empty here) (behind_other es e p 0 p m (omega arith) low (omega arith)))

  -- as the code counts
  pub push_listed : n ≤ 256 → behind (set es p e) ((p + 1) % 256) (min (n + 1) 256) ≡ take 256 (e ∷ behind es p n)
  push_listed most =
      elim (cases_Bool (ltb n 256)) [
        | inl t ↦
            let few : n < 256 = ltb-true n 256 t in
            let more : min (n + 1) 256 ≡ suc n = grind (arith, nat_tests) in
            let all : length (behind es p n) ≤ 255 = rw behind_length (omega arith) in
            rw (more, take_all 255 (behind es p n) all) (over n few)
        | inr f ↦
            let full : n ≡ 256 = omega (arith, ltb-false n 256 f) in
            rw (full, behind_take es p 255 256 (omega arith)) (over 255 (omega arith))
      ]

pub back_value : (es : List Entry) (p n : ℕ) → 0 < n → Some (get_or es (place_before p) empty) ≡ popped (behind es p n)
back_value es p zero h = absurd (omega arith)
back_value es p (suc n) h = refl

pub back_listed : (es : List Entry) (p n : ℕ) → 0 < n → behind es (place_before p) (n - 1) ≡ remaining (behind es p n)
back_listed es p zero h = absurd (omega arith)
back_listed es p (suc n) h = ap (behind es (place_before p)) (omega arith)
