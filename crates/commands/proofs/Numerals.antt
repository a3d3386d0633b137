-- What `number_in` and `number_of` find is what the table says of numbers.
use Rattle.std.proofs.Common.{◌≡◌, ◌∙◌, sym, ap, subst, refl, ℕ, ◌^◌, ◌<◌, Bool, true, false, ◌⊎◌, inl, inr, ⊎_elim, List, [], ◌∷◌, ◌++◌, length, take, drop, Some, Option, arith}
use Rattle.std.specs.Prelude.{codes, if◌then◌else◌}
use Rattle.std.specs.Char.{digit_value, is_digit}
use Rattle.std.specs.List.{list_all}
use Rattle.std.specs.Str.Parse.{AllDigits, IsNumeral, digits_value}
use Rattle.std.proofs.lemmas.Bool.Decides.{nat_tests}
use Rattle.std.proofs.lemmas.List.{take-append-drop}
use Rattle.std.proofs.lemmas.Slice.Eq.{bytes_eq-Decides}
use Rattle.commands.specs.Numbers.{number_in, number_of}
use Rattle.commands.specs.Table.{Finds, Numeral, Number, decimal, hexadecimal}
use Rattle.commands.specs.Texts.{begins}

all_digits : (base : ℕ) (text : List ℕ) → AllDigits base text → list_all (λ c. is_digit c base) text ≡ true
all_digits base [] all = refl
all_digits base (c ∷ cs) all = let rest = all_digits base cs all.1 in let first : digit_value c < base = all.0 in grind (arith, nat_tests)

digits_all : (base : ℕ) (text : List ℕ) → list_all (λ c. is_digit c base) text ≡ true → AllDigits base text
digits_all base [] all = tt
digits_all base (c ∷ cs) all = (grind (arith, nat_tests), digits_all base cs (grind (arith, nat_tests)))

pub number_in-Numeral : (base : ℕ) (text : List ℕ) (n : ℕ) → Numeral base text n → number_in base text ≡ Some n
unfolding number_in
number_in-Numeral base text n is =
    let all = all_digits base text is.digits.1 in
    let some : 0 < length text = is.digits.0 in
    let value : digits_value base text ≡ n = is.value in
    let fits : n < 2 ^ 32 = is.fits in
    grind (arith, nat_tests)

pub Numeral-number_in : (base : ℕ) (text : List ℕ) (n : ℕ) → number_in base text ≡ Some n → Numeral base text n
unfolding number_in
Numeral-number_in base text n found =
    record {
      digits = (grind (arith, nat_tests), digits_all base text (grind (arith, nat_tests)));
      value = grind (arith, nat_tests);
      fits = grind (arith, nat_tests);
    }

-- a choice that gave a value
pub either : {A : Type 0} (b : Bool) (x y : Option A) (v : A) → (if b then x else y) ≡ Some v → ((b ≡ true) × (x ≡ Some v)) ⊎ (y ≡ Some v)
either true x y v h = inl (refl, h)
either false x y v h = inr h

-- a text that begins with another is that one and the rest
pub begins-is : (text start : List ℕ) → begins text start ≡ true → text ≡ start ++ drop (length start) text
begins-is text start h =
    let front : take (length start) text ≡ start = (bytes_eq-Decides _ _).0 h in
    sym (take-append-drop (length start) text) ∙ ap (λ (t : List ℕ). t ++ drop (length start) text) front

no_prefix : (text : List ℕ) → IsNumeral 10 text → begins text (codes "0x") ≡ false
no_prefix [] is = absurd (omega (arith, is.0))
no_prefix (c ∷ []) is = grind (arith, nat_tests)
no_prefix (c ∷ d ∷ cs) is = let second : digit_value d < 10 = is.1.1.0 in grind (arith, nat_tests)

pub number_of-Number : (text : List ℕ) (n : ℕ) → Number text n → number_of text ≡ Some n
number_of-Number text n (decimal is) = rw (no_prefix text is.digits) (number_in-Numeral 10 text n is)
number_of-Number text n (hexadecimal {text = digits} is) = number_in-Numeral 16 digits n is

pub Number-number_of : (text : List ℕ) (n : ℕ) → number_of text ≡ Some n → Number text n
Number-number_of text n found =
    ⊎_elim
    (λ h. let P : List ℕ → Type 0 = λ t. Number t n in subst P (sym (begins-is text (codes "0x") h.0)) (hexadecimal (Numeral-number_in 16 _ n h.1)))
    (λ h. decimal (Numeral-number_in 10 text n h))
    (either _ _ _ n found)

pub number_found : (text : List ℕ) (r : Option ℕ) → r ≡ number_of text → Finds (Number text) r
number_found text r h = subst (Finds (Number text)) (sym h) (record { found = Number-number_of text; only = number_of-Number text })
