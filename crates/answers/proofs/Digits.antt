-- The two hexadecimal digits that the library writes of a number of 8 bits, computed for each.
use Rattle.std.proofs.Common.{◌≡◌, ℕ, zero, suc, ◌^◌, ◌-◌, ◌<◌, ◌≤◌, Bool, true, ⊎_elim, List, [], refl, subst, arith}
use Rattle.std.specs.Prelude.{◌&&◌, false}
use Rattle.std.specs.Fmt.{digits, char_count, padded_integral, format_spec}
use Rattle.std.specs.Str.{bytes_eq}
use Rattle.std.proofs.lemmas.Slice.Eq.{bytes_eq-Decides}
use Rattle.std.proofs.lemmas.Bool.{cases_lt}
use Rattle.std.proofs.lemmas.Bool.Decides.{nat_tests}
use Rattle.answers.specs.Shown.{two_digits}

-- what the library writes
abbrev written : ℕ → List ℕ
written n = padded_integral (format_spec 32 0 4 2 (2 ^ 64 - 1)) false [] (digits 16 false n)

-- each number below k passes a test
all_below : ℕ → (ℕ → Bool) → Bool
all_below zero test = true
all_below (suc k) test = test k && all_below k test

below : (k n : ℕ) (test : ℕ → Bool) → n < k → all_below k test ≡ true → test n ≡ true
unfolding all_below
below zero n test low all = absurd (omega arith)
below (suc k) n test low all =
    let here : test k ≡ true = grind (arith, nat_tests) in
    let rest : all_below k test ≡ true = grind (arith, nat_tests) in
    ⊎_elim
    (λ (less : n < k). below k n test less rest)
    (λ (last : k ≤ n). let same : k ≡ n = omega arith in subst (λ (m : ℕ). test m ≡ true) same here)
    (cases_lt n k)

tested : all_below 256 (λ n. bytes_eq (written n) (two_digits n)) ≡ true
unfolding all_below digits char_count padded_integral
tested = refl

pub two_digits_is : (n : ℕ) → n < 256 → written n ≡ two_digits n
two_digits_is n small = (bytes_eq-Decides _ _).0 (below 256 n (λ m. bytes_eq (written m) (two_digits m)) small tested)
