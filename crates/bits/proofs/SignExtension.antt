-- Sign extension: the top bit of a number, and that the extension stands for the same number.
-- Assumes nothing.
use Rattle.std.proofs.Common.{◌≡◌, ℕ, suc, ◌+◌, ◌-◌, ◌*◌, ◌/◌, ◌^◌, ◌<◌, ◌≤◌, pos, negsuc, ◌-ℤ◌, ap, ◌∙◌, ⊎_elim, pow-suc, mul-zero, arith, pow_mono, w32, to_z, of_z, Option, None, Some, SomeIff, ◌%◌, ℤ, sym, div-one, mul-one, mod-eq_of_lt}
use native.Mathlib.Nat.{div-eq_of_lt}
use mir.Facts.{to_z-neg}
use Rattle.std.proofs.lemmas.Int.{ints}
use Rattle.std.proofs.lemmas.Nat.{div-mul-add, pow_pos, pow-add, div-add-mod', mod-mul-add, mod_below, shl-shr}
use Rattle.std.proofs.Math.Nat.{mul-lt-mul_of_pos_right, mul-le-mul_right}
use Rattle.std.proofs.lemmas.Int.{to_z_pos, of_z-to_z}
use Rattle.std.specs.Int.{int_shr}
use Rattle.std.specs.Option.{unwrap_or}
use Rattle.bits.specs.Field.{field}
use Rattle.std.proofs.lemmas.Bool.{cases_lt}
use Rattle.bits.specs.Sign.{top_of, extended, signed_of}

-- 2 ^ width, where width is not 0
pub doubled : (width : ℕ) → 0 < width → 2 ^ width ≡ 2 ^ (width - 1) * 2
doubled width h =
    let e : width ≡ suc (width - 1) = omega arith in
    ap (λ n. 2 ^ n) e ∙ pow-suc 2 (width - 1)

module _ (width x : ℕ) where
  pub top_clear : x < 2 ^ (width - 1) → top_of width x ≡ 0
  top_clear h = div-eq_of_lt h

  pub top_set : 0 < width → x < 2 ^ width → 2 ^ (width - 1) ≤ x → top_of width x ≡ 1
  top_set some fits h =
      let e = doubled width some in
      let low : x - 2 ^ (width - 1) < 2 ^ (width - 1) = omega arith in
      let same : x ≡ 1 * 2 ^ (width - 1) + (x - 2 ^ (width - 1)) = omega arith in
      ap (λ n. n / 2 ^ (width - 1)) same ∙ div-mul-add 1 (2 ^ (width - 1)) (x - 2 ^ (width - 1)) low

  -- read as a signed number of 32 bits, the extension is the number that x stands for
  pub keeps_number : 0 < width → width ≤ 32 → x < 2 ^ width → to_z w32 (extended width x) ≡ signed_of width x
  keeps_number some most fits =
      let e = doubled width some in
      let less : width - 1 ≤ 31 = omega arith in
      let bound : 2 ^ (width - 1) ≤ 2 ^ 31 = pow_mono less in
      ⊎_elim
      (λ lo. rw (top_clear lo) (omega (arith, ints)))
      (λ hi.
      let m : ℕ = 2 ^ width - suc x in
      let same : x + 1 * (2 ^ 32 - 2 ^ width) ≡ 2 ^ 32 - suc m = omega arith in
      let half : m < 2 ^ 31 = omega arith in
      let back : negsuc m ≡ pos x -ℤ pos (1 * 2 ^ width) = omega (arith, ints) in
      rw (top_set some fits hi) (ap (to_z w32) same ∙ to_z-neg w32 m half ∙ back))
      (cases_lt x (2 ^ (width - 1)))

  -- of 32 bits or more nothing is left to fill
  pub whole : 32 ≤ width → x ≡ extended width x
  whole most =
      let full : 2 ^ 32 ≤ 2 ^ width = pow_mono most in
      let none : 2 ^ 32 - 2 ^ width ≡ 0 = omega arith in
      rw none (omega (arith, mul-zero (top_of width x)))

-- x raised to the top of a word of 32 bits
module _ (width x : ℕ) (some : 0 < width) (most : width ≤ 32) where
  whole_word : 2 ^ width * 2 ^ (32 - width) ≡ 2 ^ 32
  whole_word = let e : width + (32 - width) ≡ 32 = omega arith in sym (pow-add 2 width (32 - width)) ∙ ap (λ n. 2 ^ n) e

  raised : x * 2 ^ (32 - width) % 2 ^ 32 ≡ x % 2 ^ width * 2 ^ (32 - width)
  raised =
      let parts : x / 2 ^ width * (2 ^ width * 2 ^ (32 - width)) + x % 2 ^ width * 2 ^ (32 - width) ≡ x * 2 ^ (32 - width) =
      omega (arith, ap (λ n. n * 2 ^ (32 - width)) (div-add-mod' x (2 ^ width))) in
      let low : x % 2 ^ width * 2 ^ (32 - width) < 2 ^ width * 2 ^ (32 - width) =
      mul-lt-mul_of_pos_right (mod_below x (2 ^ width) (pow_pos width)) (pow_pos (32 - width)) in
      rw (← parts, ← whole_word) (mod-mul-add (x / 2 ^ width) (2 ^ width * 2 ^ (32 - width)) (x % 2 ^ width * 2 ^ (32 - width)) low)

shr_none : (z : ℤ) → int_shr z 0 ≡ z
shr_none (pos n) = ap pos (div-one n)
shr_none (negsuc n) = ap negsuc (div-one n)

-- y raised to the top of a word of 32 bits and shifted back with copies of its top bit
module _ (width y : ℕ) (some : 0 < width) (most : width ≤ 32) (fits : y < 2 ^ width) where
  back : of_z w32 (int_shr (to_z w32 (y * 2 ^ (32 - width))) (32 - width)) ≡ extended width y
  back =
      let two = doubled width some in
      let whole = whole_word width y some most in
      let places = pow_pos (32 - width) in
      let top : 2 ^ (width - 1) * 2 ^ (32 - width) ≡ 2 ^ 31 = omega (arith, ap (λ n. n * 2 ^ (32 - width)) two) in
      ⊎_elim
      (λ lo.
      let under : y * 2 ^ (32 - width) < 2 ^ (width - 1) * 2 ^ (32 - width) = mul-lt-mul_of_pos_right lo places in
      let half : y * 2 ^ (32 - width) < 2 ^ 31 = omega arith in
      rw (to_z_pos w32 (y * 2 ^ (32 - width)) half, shl-shr y (32 - width), top_clear width y lo) (omega arith))
      (λ hi.
      let d : ℕ = 2 ^ width - suc y in
      let m : ℕ = d * 2 ^ (32 - width) + (2 ^ (32 - width) - 1) in
      let sum : 2 ^ width ≡ y + suc d = omega arith in
      let all : y * 2 ^ (32 - width) ≡ 2 ^ 32 - suc m = omega (arith, ap (λ n. n * 2 ^ (32 - width)) sum) in
      let under : suc d * 2 ^ (32 - width) ≤ 2 ^ (width - 1) * 2 ^ (32 - width) = mul-le-mul_right (2 ^ (32 - width)) (omega arith) in
      let half : m < 2 ^ 31 = omega arith in
      let over : m / 2 ^ (32 - width) ≡ d = div-mul-add d (2 ^ (32 - width)) (2 ^ (32 - width) - 1) (omega arith) in
      let least : 2 ^ width ≤ 2 ^ 32 = pow_mono most in
      let value : 2 ^ 32 - suc d ≡ y + 1 * (2 ^ 32 - 2 ^ width) = omega arith in
      rw (all, to_z-neg w32 m half, over, top_set width y some fits hi) value)
      (cases_lt y (2 ^ (width - 1)))

module _ (width x : ℕ) (some : 0 < width) (fits : x < 2 ^ 32) where
  near : width ≤ 32 → of_z w32 (int_shr (to_z w32 (x * 2 ^ (32 - width) % 2 ^ 32)) (32 - width)) ≡ extended width (x / 1 % 2 ^ width)
  near most = rw (raised width x some most, div-one) (back width (x % 2 ^ width) some most (mod_below x (2 ^ width) (pow_pos width)))

  far : 32 ≤ width → of_z w32 (int_shr (to_z w32 (x * 2 ^ (32 - width) % 2 ^ 32)) (32 - width)) ≡ extended width (x / 1 % 2 ^ width)
  far most =
      let none : 32 - width ≡ 0 = omega arith in
      let full : 2 ^ 32 ≤ 2 ^ width = pow_mono most in
      let all : x % 2 ^ width ≡ x = mod-eq_of_lt (omega arith) in
      rw (none, div-one, all, mul-one, mod-eq_of_lt fits, shr_none) (of_z-to_z w32 x fits ∙ whole width x most)

pub lowered : (o : Option ℕ) (p : Option ℤ) (x width : ℕ) → x < 2 ^ 32 → SomeIff o (32 - width < 32) (x * 2 ^ (32 - width) % 2 ^ 32) → SomeIff p (32 - width < 32) (int_shr (to_z w32 (unwrap_or o 0)) (32 - width)) → of_z w32 (unwrap_or p (pos 0)) ≡ extended width (field 0 width x)
lowered None (Some z) x width fits e f = absurd (e f.0)
lowered (Some r) None x width fits e f = absurd (f e.0)
lowered None None x width fits e f =
    let none : width ≡ 0 = omega arith in
    rw (none) (omega arith)
lowered (Some r) (Some z) x width fits e f =
    let some : 0 < width = omega arith in
    let here : r ≡ x * 2 ^ (32 - width) % 2 ^ 32 = e.1 in
    let there : z ≡ int_shr (to_z w32 r) (32 - width) = f.1 in
    rw (there, here) (⊎_elim (λ few. near width x some fits (omega arith)) (λ many. far width x some fits many) (cases_lt width 32))
