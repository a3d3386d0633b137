-- A word put together from an array that calls of one closure made.
-- Assumes nothing.
use Rattle.std.proofs.Common.{◌≡◌, ℕ, ◌+◌, ◌<◌, ◌≤◌, zero, suc, eqb, List, get_or, subst, refl, ◌∙◌, inl, inr, arith, w32}
use Rattle.std.proofs.lemmas.Bool.{cases_Bool, eqb-true, eqb-false}
use Rattle.std.specs.Array.{IsFromFnResultFrom}
use Rattle.std.specs.Fn.{Called}
use Rattle.std.specs.Int.{from_le_bytes}
use Rattle.memory.specs.Lanes.{of_lanes}
use denote.Param.Members.{Mut}

-- a call at k answers P k, and leaves the closure as it is
module _ {F : Type 0} (g : Mut F (ℕ × Unit {0}) ℕ) (f : F) (P : ℕ → ℕ) (answers : (k r : ℕ) (q : F) → Called g f (k, tt) r q → (r ≡ P k) × (q ≡ f)) (ys : List ℕ) where
  each : (n i : ℕ) (p : F) → p ≡ f → IsFromFnResultFrom g p ys i n → (k : ℕ) → i ≤ k → k < i + n → get_or ys k 0 ≡ P k
  each zero i p e h k low high = absurd (omega arith)
  each (suc n) i p e h k low high =
      let s = answers i h.1 h.0 (subst (λ (x : F). Called g x (i, tt) h.1 h.0) e h.3) in
      elim (cases_Bool (eqb k i)) [
        | inl t ↦ let j : k ≡ i = eqb-true k i t in rw j (h.2.1 0 ∙ s.0)
        | inr t ↦ let j = eqb-false k i t in each n (i + 1) h.0 s.1 h.4 k (omega (arith, j)) (omega arith)
      ]

  pub word_made : IsFromFnResultFrom g f ys 0 4 → from_le_bytes w32 ys ≡ of_lanes (P 0) (P 1) (P 2) (P 3)
  word_made h =
      let at : (k : ℕ) → k < 4 → get_or ys k 0 ≡ P k = λ k l. each 4 0 f refl h k (omega arith) l in
      rw (at 0 (omega arith), at 1 (omega arith), at 2 (omega arith), at 3 (omega arith))
