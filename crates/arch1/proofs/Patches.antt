-- A store as the memory makes it, against the store of the machine.
use Rattle.std.proofs.Common.{◌≡◌, ℕ, zero, suc, ◌*◌, ◌/◌, ◌%◌, ◌^◌, ◌<◌, ◌≤◌, Bool, true, false, cond, eqb, ltb, refl, ap, ◌∙◌, arith}
use mathlib.Core.Path.{fun_ext}
use Rattle.std.proofs.lemmas.Bool.{eqb-true, le-ltb}
use Rattle.alu.specs.Stores.{mask_of}
use Rattle.alu.specs.declared.stores.Store.{Store}
use Rattle.alu.specs.declared.stores.Store.TheVariants.{Byte, Half, Word}
use Rattle.memory.specs.Lanes.{merged}
use Rattle.memory.specs.Meaning.{written, patched}
use Rattle.memory.specs.declared.kind.Kind.{Kind}
use Rattle.memory.specs.declared.kind.Kind.TheVariants.{Open}

one_lane : (n : ℕ) → n < 4 → 2 ^ n ≤ 15
one_lane zero h = omega arith
one_lane (suc zero) h = omega arith
one_lane (suc (suc zero)) h = omega arith
one_lane (suc (suc (suc zero))) h = omega arith
one_lane (suc (suc (suc (suc n)))) h = absurd (omega arith)

two_lanes : (n : ℕ) → n < 2 → 3 * 2 ^ (2 * n) ≤ 15
two_lanes zero h = omega arith
two_lanes (suc zero) h = omega arith
two_lanes (suc (suc n)) h = absurd (omega arith)

-- the mask of a store names no lane above the fourth
pub mask_fits : (s : Store) (address : ℕ) → ltb 15 (mask_of s address) ≡ false
mask_fits Byte address = le-ltb 15 _ (one_lane (address % 4) (omega arith))
mask_fits Half address = le-ltb 15 _ (two_lanes (address / 2 % 2) (omega arith))
mask_fits Word address = refl

module _ (K : ℕ → Kind) (W : ℕ → ℕ) (k v mask : ℕ) where
  -- a word that is not open stays
  closed_at : (kd : Kind) → K k ≡ kd → ((w : ℕ) → written mask v kd w ≡ w) → (j : ℕ) (b : Bool) → eqb j k ≡ b →
      cond b (written mask v (K j) (W j)) (W j) ≡ W j
  closed_at kd e same j true t =
      let here : K j ≡ kd = ap K (eqb-true j k t) ∙ e in
      ap (λ (z : Kind). written mask v z (W j)) here ∙ same (W j)
  closed_at kd e same j false t = refl

  pub closed : (kd : Kind) → K k ≡ kd → ((w : ℕ) → written mask v kd w ≡ w) → patched K W k v mask ≡ W
  closed kd e same = fun_ext (λ j. closed_at kd e same j (eqb j k) refl)

  -- an open word takes the lanes of the mask
  opened_at : K k ≡ Open → ltb 15 mask ≡ false → (j : ℕ) (b : Bool) → eqb j k ≡ b →
      cond b (written mask v (K j) (W j)) (W j) ≡ cond b (merged mask v (W j)) (W j)
  opened_at e m j true t =
      let here : K j ≡ Open = ap K (eqb-true j k t) ∙ e in
      ap (λ (z : Kind). written mask v z (W j)) here ∙ ap (λ (z : Bool). cond z (W j) (merged mask v (W j))) m
  opened_at e m j false t = refl

  pub opened : K k ≡ Open → ltb 15 mask ≡ false → patched K W k v mask ≡ (λ j. cond (eqb j k) (merged mask v (W j)) (W j))
  opened e m = fun_ext (λ j. opened_at e m j (eqb j k) refl)
