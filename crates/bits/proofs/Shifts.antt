-- Shifts by any number of places, and the low bits of a number.
-- Assumes nothing.
use Rattle.std.proofs.Common.{◌≡◌, ℕ, ◌+◌, ◌-◌, ◌*◌, ◌/◌, ◌%◌, ◌^◌, ◌<◌, ◌≤◌, Option, None, Some, SomeIff, sym, ap, ◌∙◌, mod-eq_of_lt, arith, pow_mono, one-mul, bit_and, rules}
use Rattle.std.specs.Option.{unwrap_or}
use native.Mathlib.Nat.{div-eq_of_lt}
use Rattle.std.proofs.lemmas.Nat.{and_mask, pow_pos, shr_le}
use Rattle.bits.specs.Field.{field}

-- 32 bits or more
below_wide : (x k : ℕ) → x < 2 ^ 32 → (k < 32 → ⊥) → x < 2 ^ k
below_wide x k fits far = let wide : 32 ≤ k = omega arith in let most : 2 ^ 32 ≤ 2 ^ k = pow_mono wide in omega arith

shifted_out : (o : Option ℕ) (x k : ℕ) → x < 2 ^ 32 → SomeIff o (k < 32) (x / 2 ^ k) → unwrap_or o 0 ≡ x / 2 ^ k
shifted_out None x k fits far = sym (div-eq_of_lt (below_wide x k fits far))
shifted_out (Some v) x k fits h = h.1

-- the mask of k ones, or of 32
masked : (o : Option ℕ) (x k : ℕ) → x < 2 ^ 32 → SomeIff o (k < 32) (1 * 2 ^ k % 2 ^ 32) → bit_and x ((unwrap_or o 0 + 2 ^ 32 - 1) % 2 ^ 32) ≡ x % 2 ^ k
masked None x k fits far = and_mask x 32 ∙ mod-eq_of_lt fits ∙ sym (mod-eq_of_lt (below_wide x k fits far))
masked (Some t) x k fits near =
    let less : 2 ^ k < 2 ^ 32 = search rules in
    let some = pow_pos k in
    let e : t ≡ 2 ^ k = near.1 ∙ ap (λ n. n % 2 ^ 32) (one-mul (2 ^ k)) ∙ mod-eq_of_lt less in
    let f : (t + 2 ^ 32 - 1) % 2 ^ 32 ≡ 2 ^ k - 1 = omega arith in
    ap (bit_and x) f ∙ and_mask x k

-- the low `width` bits of what is left of w above its low `lo` bits
pub picked : (o p : Option ℕ) (lo width w : ℕ) → w < 2 ^ 32 → SomeIff o (width < 32) (1 * 2 ^ width % 2 ^ 32) → SomeIff p (lo < 32) (w / 2 ^ lo) → bit_and (unwrap_or p 0) ((unwrap_or o 0 + 2 ^ 32 - 1) % 2 ^ 32) ≡ field lo width w
picked o p lo width w fits mask rest =
    let left = shifted_out p w lo fits rest in
    let less : w / 2 ^ lo < 2 ^ 32 = omega (arith, shr_le w lo) in
    rw left (masked o (w / 2 ^ lo) width less mask)
