-- Digits read one after another.
use Rattle.std.proofs.Common.{◌≡◌, ◌∙◌, add-one, ℕ, ◌+◌, ◌*◌, ◌^◌, ◌<◌, ◌≤◌, List, [], ◌∷◌, length, drop, drop_of_length-le, get_or, Some, None, Option, refl, arith, drop-cons}
use Rattle.std.specs.Prelude.{◌&&◌, nat_lt, if◌then◌else◌}
use Rattle.std.specs.Char.{digit_value, is_digit}
use Rattle.std.specs.List.{list_all}
use Rattle.std.specs.Str.Parse.{digits_value_after}
use Rattle.std.proofs.Math.Nat.{le-mul_of_pos_right}
use Rattle.std.proofs.lemmas.Bool.Decides.{nat_tests}
use Rattle.commands.specs.Numbers.{number_in}

-- the number of a text that begins with the digits of n, of which this is what follows
unfoldable pub number_after : ℕ → ℕ → List ℕ → Option ℕ
number_after base n text = if list_all (λ c. is_digit c base) text && nat_lt (digits_value_after base n text) (2 ^ 32) then Some (digits_value_after base n text) else None

grows : (base n : ℕ) (text : List ℕ) → 1 ≤ base → n ≤ digits_value_after base n text
grows base n [] positive = omega arith
grows base n (c ∷ cs) positive =
    let grown : n ≤ n * base = le-mul_of_pos_right n positive in
    omega (arith, grows base (n * base + digit_value c) cs positive)

pub number_in-empty : (base : ℕ) (text : List ℕ) → length text ≡ 0 → number_in base text ≡ None
unfolding number_in
number_in-empty base [] empty = refl
number_in-empty base (c ∷ cs) empty = absurd (omega arith)

pub number_in-some : (base : ℕ) (text : List ℕ) → 0 < length text → number_in base text ≡ number_after base 0 text
unfolding number_in number_after
number_in-some base [] some = absurd (omega arith)
number_in-some base (c ∷ cs) some = grind (arith, nat_tests)

pub number_after-end : (base n : ℕ) → n < 2 ^ 32 → number_after base n [] ≡ Some n
unfolding number_after
number_after-end base n fits = grind (arith, nat_tests)

pub number_after-digit : (base n : ℕ) (c : ℕ) (cs : List ℕ) → digit_value c < base → number_after base n (c ∷ cs) ≡ number_after base (n * base + digit_value c) cs
unfolding number_after
number_after-digit base n c cs digit = grind (arith, nat_tests)

pub number_after-other : (base n : ℕ) (c : ℕ) (cs : List ℕ) → base ≤ digit_value c → number_after base n (c ∷ cs) ≡ None
unfolding number_after
number_after-other base n c cs other = grind (arith, nat_tests)

pub number_after-large : (base n : ℕ) (text : List ℕ) → 1 ≤ base → 2 ^ 32 ≤ n → number_after base n text ≡ None
unfolding number_after
number_after-large base n text positive large = let grown = grows base n text positive in grind (arith, nat_tests)

at : (base n i : ℕ) (text : List ℕ) → i < length text → number_after base n (drop i text) ≡ number_after base n (get_or text i 0 ∷ drop (i + 1) text)
at base n i text within = rw (add-one, drop-cons text i 0) refl

-- the character at place i is no digit
pub number_after-no_digit : (base n i : ℕ) (text : List ℕ) → i < length text → base ≤ digit_value (get_or text i 0) → number_after base n (drop i text) ≡ None
number_after-no_digit base n i text within other = at base n i text within ∙ number_after-other base n _ _ other

-- it is one
pub number_after-more : (base n i : ℕ) (text : List ℕ) → i < length text → digit_value (get_or text i 0) < base → number_after base n (drop i text) ≡ number_after base (n * base + digit_value (get_or text i 0)) (drop (i + 1) text)
number_after-more base n i text within digit = at base n i text within ∙ number_after-digit base n _ _ digit

-- it is one, and the number has more than 32 bits
pub number_after-too_large : (base n i : ℕ) (text : List ℕ) → 1 ≤ base → i < length text → digit_value (get_or text i 0) < base → 2 ^ 32 ≤ n * base + digit_value (get_or text i 0) → number_after base n (drop i text) ≡ None
number_after-too_large base n i text positive within digit large = number_after-more base n i text within digit ∙ number_after-large base _ _ positive large

-- there is no more
pub number_after-whole : (base n i : ℕ) (text : List ℕ) → length text ≤ i → n < 2 ^ 32 → number_after base n (drop i text) ≡ Some n
number_after-whole base n i text past fits = rw (drop_of_length-le text past) (number_after-end base n fits)

pub ruleset reading = (number_in-empty, number_in-some, number_after-no_digit, number_after-more, number_after-too_large, number_after-whole)
