-- The lines of a text, as they are read: up to and with the next byte 10.
use Rattle.std.proofs.Common.{◌≡◌, ◌∙◌, sym, ap, refl, ℕ, zero, suc, ◌+◌, ◌<◌, ◌≤◌, Bool, true, false, cond, ⊎_elim, List, [], ◌∷◌, length, take, drop, drop_of_length-le, arith}
use Rattle.std.specs.Prelude.{not, ◌==◌, Some, None, Option, position, if◌then◌else◌}
use Rattle.std.specs.List.{position_or_len}
use Rattle.std.specs.Option.{option_map_or}
use Rattle.std.specs.Io.BufRead.{take_through, drop_through}
use Rattle.std.proofs.lemmas.Bool.{cases_lt}
use Rattle.std.proofs.lemmas.Bool.Decides.{nat_tests}
use Rattle.std.proofs.lemmas.List.{take-take, take_all, length-take-le, length-drop}
use Rattle.commands.specs.Lines.{first_line, after_first_line, without_return}
use Rattle.commands.specs.Lines.{lines_of_first, lines}

-- where the first byte 10 is, or the length
before : List ℕ → ℕ
before text = position_or_len (λ byte. byte == 10) text

one_more : (n : ℕ) → 1 + n + 1 ≡ suc (n + 1)
one_more n = omega arith

take_is : (text : List ℕ) → take_through 10 text ≡ take (before text + 1) text
unfolding before
take_is [] = refl
take_is (c ∷ cs) =
    elim (c == 10) as (λ b. (if b then c ∷ [] else c ∷ take_through 10 cs) ≡ take (cond (not b) (1 + before cs) 0 + 1) (c ∷ cs))
    [ true ↦ refl | false ↦ rw (one_more (before cs)) (ap (λ (t : List ℕ). c ∷ t) (take_is cs)) ]

drop_is : (text : List ℕ) → drop_through 10 text ≡ drop (before text + 1) text
unfolding before
drop_is [] = refl
drop_is (c ∷ cs) =
    elim (c == 10) as (λ b. (if b then cs else drop_through 10 cs) ≡ drop (cond (not b) (1 + before cs) 0 + 1) (c ∷ cs))
    [ true ↦ refl | false ↦ rw (one_more (before cs)) (drop_is cs) ]

-- what stands before the first byte 10 stays before it, if the text is cut after it
before_cut : (c : ℕ) (cs : List ℕ) → c == 10 ≡ false → before (c ∷ cs) ≡ 1 + before cs
unfolding before
before_cut c cs other = rw other refl

before_found : (c : ℕ) (cs : List ℕ) → c == 10 ≡ true → before (c ∷ cs) ≡ 0
unfolding before
before_found c cs here = rw here refl

before_take_on : (c : ℕ) (cs : List ℕ) (b : Bool) → c == 10 ≡ b → before (take (before cs + 1) cs) ≡ before cs → before (take (before (c ∷ cs) + 1) (c ∷ cs)) ≡ before (c ∷ cs)
before_take_on c cs true h rest = rw (before_found c cs h) (before_found c [] h)
before_take_on c cs false h rest = rw (before_cut c cs h, one_more (before cs)) (before_cut c (take (before cs + 1) cs) h ∙ ap (λ n. 1 + n) rest)

before_take : (text : List ℕ) → before (take (before text + 1) text) ≡ before text
unfolding before
before_take [] = refl
before_take (c ∷ cs) = before_take_on c cs (c == 10) refl (before_take cs)

before_le : (text : List ℕ) → before text ≤ length text
unfolding before
before_le [] = omega arith
before_le (c ∷ cs) = let rest = before_le cs in grind (arith, nat_tests)

abbrev newline : List ℕ → Option ℕ
newline text = position (λ byte. byte == 10) text

found : (text : List ℕ) → before text < length text → newline text ≡ Some (before text)
unfolding before
found text h = grind (arith, nat_tests)

absent : (text : List ℕ) → length text ≤ before text → newline text ≡ None
unfolding before
absent text h = grind (arith, nat_tests)

abbrev first_by : Option ℕ → List ℕ → List ℕ
first_by at text = option_map_or (λ end. without_return (take end text)) at text

first_is : (text : List ℕ) → first_line text ≡ first_by (newline text) text
first_is text = refl

-- the first line is that of what was read up to its end
first_line_through : (text : List ℕ) → first_line (take_through 10 text) ≡ first_line text
first_line_through text = rw (take_is text, first_is text, first_is (take (before text + 1) text)) (first_cut text)
  where
    first_cut : (text : List ℕ) → first_by (newline (take (before text + 1) text)) (take (before text + 1) text) ≡ first_by (newline text) text
    first_cut text =
        ⊎_elim
        (λ (in_text : before text < length text).
        let kept : before (take (before text + 1) text) ≡ before text = before_take text in
        let cut : length (take (before text + 1) text) ≡ before text + 1 = length-take-le (before text + 1) text (omega arith) in
        let longer : before (take (before text + 1) text) < length (take (before text + 1) text) = omega arith in
        let same : take (before text) (take (before text + 1) text) ≡ take (before text) text = take-take (before text) (before text + 1) text (omega arith) in
        rw (found text in_text, found (take (before text + 1) text) longer, kept) (ap without_return same))
        (λ (past : length text ≤ before text).
        let whole : take (before text + 1) text ≡ text = take_all (before text + 1) text (omega arith) in
        ap (λ (t : List ℕ). first_by (newline t) t) whole)
        (cases_lt (before text) (length text))

pub after_through : (text : List ℕ) → drop_through 10 text ≡ after_first_line text
after_through text =
    ⊎_elim
    (λ (in_text : before text < length text). drop_is text ∙ sym (ap (λ (at : Option ℕ). option_map_or (λ end. drop (end + 1) text) at []) (found text in_text)))
    (λ (past : length text ≤ before text).
    drop_is text ∙ drop_of_length-le text (omega arith) ∙ sym (ap (λ (at : Option ℕ). option_map_or (λ end. drop (end + 1) text) at []) (absent text past)))
    (cases_lt (before text) (length text))

-- a line takes bytes of the text
shorter : (c : ℕ) (cs : List ℕ) → length (after_first_line (c ∷ cs)) ≤ length cs
shorter c cs =
    let cut : after_first_line (c ∷ cs) ≡ drop (before (c ∷ cs) + 1) (c ∷ cs) = sym (after_through (c ∷ cs)) ∙ drop_is (c ∷ cs) in
    rw (cut, length-drop (before (c ∷ cs) + 1) (c ∷ cs)) (omega arith)

enough : (m n : ℕ) (text : List ℕ) → length text ≤ m → length text ≤ n → lines_of_first m text ≡ lines_of_first n text
unfolding lines_of_first
enough zero zero text h k = refl
enough zero (suc n) [] h k = refl
enough zero (suc n) (c ∷ cs) h k = absurd (omega arith)
enough (suc m) zero [] h k = refl
enough (suc m) zero (c ∷ cs) h k = absurd (omega arith)
enough (suc m) (suc n) [] h k = refl
enough (suc m) (suc n) (c ∷ cs) h k =
    ap (λ (ls : List (List ℕ)). first_line (c ∷ cs) ∷ ls) (enough m n (after_first_line (c ∷ cs)) (omega (arith, shorter c cs)) (omega (arith, shorter c cs)))

lines_more : (c : ℕ) (cs : List ℕ) → lines (c ∷ cs) ≡ first_line (c ∷ cs) ∷ lines (after_first_line (c ∷ cs))
unfolding lines_of_first
lines_more c cs = ap (λ (ls : List (List ℕ)). first_line (c ∷ cs) ∷ ls) (enough (length cs) _ (after_first_line (c ∷ cs)) (shorter c cs) (omega arith))

-- the first line and those after it, as they are read
pub lines_read : (text raw : List ℕ) → raw ≡ take_through 10 text → 0 < length raw → lines text ≡ first_line raw ∷ lines (drop_through 10 text)
lines_read [] raw h some = absurd (omega (arith, ap length h))
lines_read (c ∷ cs) raw h some =
    lines_more c cs
    ∙ ap (λ (l : List ℕ). l ∷ lines (after_first_line (c ∷ cs))) (sym (ap first_line h ∙ first_line_through (c ∷ cs)))
    ∙ ap (λ (t : List ℕ). first_line raw ∷ lines t) (sym (after_through (c ∷ cs)))

-- nothing is read at the end alone
pub nothing_read : (text : List ℕ) → [] ≡ take_through 10 text → text ≡ []
nothing_read [] h = refl
nothing_read (c ∷ cs) h = absurd (some (c == 10) c cs h)
  where
    some : (b : Bool) (c : ℕ) (cs : List ℕ) → [] ≡ (if b then c ∷ [] else c ∷ take_through 10 cs) → ⊥
    some true c cs h = cc
    some false c cs h = cc
