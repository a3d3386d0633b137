-- The hexadecimal digits that the library writes are those of Hexadecimal.
use Rattle.std.proofs.Common.{◌≡◌, ℕ, zero, suc, ◌+◌, ◌-◌, ◌/◌, ◌%◌, ◌^◌, ◌<◌, ◌≤◌, Bool, false, cond, List, [], ◌∷◌, ◌++◌, length, map, replicate, refl, sym, ap, ◌∙◌, append_assoc, append-nil, ⊎_elim, add-one, arith}
use Rattle.std.proofs.lemmas.Int.Digits.{digits_of_step}
use Rattle.std.proofs.lemmas.List.{map_push, replicate_more}
use Rattle.std.proofs.lemmas.Bool.{cases_lt}
use lib.Dec.{eqb-suc-zero}
use native.Mathlib.Nat.{pow-suc, sub-zero, div-div-eq-div-mul}
use Rattle.std.proofs.lemmas.Bool.Decides.{nat_tests}
use Rattle.std.specs.Fmt.{digits, digits_onto, padded_integral, char_count, format_spec}
use Rattle.std.specs.Int.Digits.{digits_of}
use Rattle.assembly.specs.Hexadecimal.{glyph, eight_digits, hexadecimal}

-- how the library writes: the lowest digit is the last, and stands alone if nothing is above it
last : (k n : ℕ) (acc : List ℕ) → n / 16 ≡ 0 → digits_onto (suc k) 16 false n acc ≡ glyph (n % 16) ∷ acc
last k n acc h = grind (arith, nat_tests)

more : (k n : ℕ) (acc : List ℕ) → 0 < n / 16 → digits_onto (suc k) 16 false n acc ≡ digits_onto k 16 false (n / 16) (glyph (n % 16) ∷ acc)
more k n acc h = grind (arith, nat_tests)

abbrev written : ℕ → List ℕ
written n = map glyph (digits_of 16 n)

written_last : (n : ℕ) → 0 < n → written n ≡ written (n / 16) ++ (glyph (n % 16) ∷ [])
written_last n h = ap (map glyph) (digits_of_step 16 n (omega arith) h) ∙ map_push glyph (digits_of 16 (n / 16)) (n % 16)

-- the digits of n, if it has at most k, before what is written
onto : (k n : ℕ) → n < 16 ^ k → 0 < n → (acc : List ℕ) → digits_onto k 16 false n acc ≡ written n ++ acc
onto zero n few some acc = absurd (omega arith)
onto (suc k) n few some acc = ⊎_elim
    (λ (none : n / 16 < 1). last k n acc (omega arith) ∙ ap (λ (x : List ℕ). x ++ acc) (ap (λ (x : ℕ). written x ++ (glyph (n % 16) ∷ [])) {x = 0} {y = n / 16} (omega arith) ∙ sym (written_last n some)))
    (λ (any : 1 ≤ n / 16).
    more k n acc any ∙ onto k (n / 16) (omega (arith, pow-suc 16 k)) any (glyph (n % 16) ∷ acc)
    ∙ sym (ap (λ (x : List ℕ). x ++ acc) (written_last n some) ∙ append_assoc (written (n / 16)) (glyph (n % 16) ∷ []) acc))
    (cases_lt (n / 16) 1)

pub hexadecimal_is : (n : ℕ) → n < 2 ^ 64 → digits 16 false n ≡ hexadecimal n
unfolding digits hexadecimal
hexadecimal_is zero small = refl
hexadecimal_is (suc m) small = onto 64 (suc m) (omega arith) (omega arith) [] ∙ append-nil (written (suc m))
    ∙ sym (ap (λ (b : Bool). cond b (glyph 0 ∷ []) (written (suc m))) (eqb-suc-zero m))

-- the last j digits of n, before what is written
low : ℕ → ℕ → List ℕ → List ℕ
low zero n acc = acc
low (suc j) n acc = low j (n / 16) (glyph (n % 16) ∷ acc)

zeros : (j : ℕ) (acc : List ℕ) → replicate j 48 ++ acc ≡ low j 0 acc
unfolding low
zeros zero acc = refl
zeros (suc j) acc = ap (λ (x : List ℕ). x ++ acc) {x = 48 ∷ replicate j 48} (sym (rw add-one at (replicate_more {X = ℕ} j 48))) ∙ append_assoc (replicate j 48) (48 ∷ []) acc ∙ zeros j (48 ∷ acc)

-- the digits of n, if it has at most j, filled up with zeros
filled : (j k n : ℕ) → n < 16 ^ suc j → j ≤ k → (acc : List ℕ) →
    replicate (suc j + length acc - length (digits_onto (suc k) 16 false n acc)) 48 ++ digits_onto (suc k) 16 false n acc ≡ low (suc j) n acc
unfolding low
filled zero k n few le acc =
    let none : 1 + length acc - suc (length acc) ≡ 0 = omega arith in
    rw (last k n acc (omega (arith, pow-suc 16 0)), none) refl
filled (suc j) zero n few le acc = absurd (omega arith)
filled (suc j) (suc k) n few le acc = ⊎_elim
    (λ (none : n / 16 < 1).
    let above : n / 16 ≡ 0 = omega arith in
    let room : suc (suc j) + length acc - suc (length acc) ≡ suc j = omega arith in
    rw (last (suc k) n acc above, room, above) (zeros (suc j) (glyph (n % 16) ∷ acc)))
    (λ (any : 1 ≤ n / 16).
    let room : suc j + suc (length acc) ≡ suc (suc j) + length acc = omega arith in
    rw (more (suc k) n acc any, ← room) (filled j k (n / 16) (omega (arith, pow-suc 16 (suc j))) (omega arith) (glyph (n % 16) ∷ acc)))
    (cases_lt (n / 16) 1)

low_eight : (n : ℕ) → low 8 n [] ≡ eight_digits n
unfolding low
low_eight n = simp div-div-eq-div-mul

spelled : (n : ℕ) → digits 16 false n ≡ digits_onto 64 16 false n []
unfolding digits
spelled n = refl

-- the library fills a number up to eight digits with zeros
to_eight : (ds : List ℕ) → padded_integral (format_spec 32 0 4 8 (2 ^ 64 - 1)) false [] ds ≡ replicate (8 - length ds) 48 ++ ds
unfolding padded_integral char_count
to_eight ds = simp (sub-zero, append-nil)

pub eight_digits_is : (n : ℕ) → n < 2 ^ 32 → padded_integral (format_spec 32 0 4 8 (2 ^ 64 - 1)) false [] (digits 16 false n) ≡ eight_digits n
eight_digits_is n small = to_eight (digits 16 false n) ∙ rw (spelled n) (filled 7 63 n (omega arith) (omega arith) [] ∙ low_eight n)
