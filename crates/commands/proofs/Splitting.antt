-- A text is its first line with its ending, and what stands behind it.
use Rattle.std.proofs.Common.{◌≡◌, ◌∙◌, sym, ap, subst, refl, ℕ, suc, ◌+◌, ◌-◌, ◌<◌, ◌≤◌, Bool, true, false, ⊎_elim, List, [], ◌∷◌, ◌++◌, append_assoc, length, take, drop, Some, None, Option, arith}
use Rattle.std.specs.Prelude.{not, ◌==◌, codes, position, MatchOption}
use Rattle.std.specs.List.{position_or_len}
use Rattle.std.proofs.lemmas.Bool.{cases_lt}
use Rattle.std.proofs.lemmas.Bool.Decides.{nat_tests}
use Rattle.std.proofs.lemmas.List.{take-append-drop, take_all}
use Rattle.std.proofs.lemmas.Slice.Eq.{bytes_eq-Decides}
use Rattle.commands.specs.Lines.{first_line, after_first_line, one_line, without_return, Splits, newline, returned, last}
use Rattle.commands.specs.Texts.{ends}

-- where the first byte 10 is, or the length
abbrev end_of : List ℕ → ℕ
end_of text = position_or_len (λ byte. byte == 10) text

found_here : (c : ℕ) (cs : List ℕ) → c == 10 ≡ true → end_of (c ∷ cs) ≡ 0
found_here c cs here = rw here refl

one_plus : (n : ℕ) → 1 + n ≡ suc n
one_plus n = omega arith

found_later : (c : ℕ) (cs : List ℕ) → c == 10 ≡ false → end_of (c ∷ cs) ≡ suc (end_of cs)
found_later c cs other = rw other (one_plus (end_of cs))

is_ten : (c : ℕ) → c == 10 ≡ true → c ≡ 10
is_ten c h = grind (arith, nat_tests)

one_more : (n : ℕ) → suc n + 1 ≡ suc (n + 1)
one_more n = omega arith

cut_by : (c : ℕ) (cs : List ℕ) (b : Bool) → c == 10 ≡ b → (end_of cs < length cs → cs ≡ take (end_of cs) cs ++ (10 ∷ drop (end_of cs + 1) cs)) →
    end_of (c ∷ cs) < length (c ∷ cs) → c ∷ cs ≡ take (end_of (c ∷ cs)) (c ∷ cs) ++ (10 ∷ drop (end_of (c ∷ cs) + 1) (c ∷ cs))
cut_by c cs true e rest h = rw (found_here c cs e) (ap (λ d. d ∷ cs) (is_ten c e))
cut_by c cs false e rest h = let later = found_later c cs e in rw (later, one_more (end_of cs)) (ap (λ (t : List ℕ). c ∷ t) (rest (omega arith)))

cut : (text : List ℕ) → end_of text < length text → text ≡ take (end_of text) text ++ (10 ∷ drop (end_of text + 1) text)
cut [] h = absurd (omega arith)
cut (c ∷ cs) h = cut_by c cs (c == 10) refl (cut cs) h

before_by : (c : ℕ) (cs : List ℕ) (b : Bool) → c == 10 ≡ b → one_line (take (end_of cs) cs) ≡ true → one_line (take (end_of (c ∷ cs)) (c ∷ cs)) ≡ true
before_by c cs true e rest = rw (found_here c cs e) refl
before_by c cs false e rest = rw (found_later c cs e) (rw (e, rest) refl)

before : (text : List ℕ) → one_line (take (end_of text) text) ≡ true
before [] = refl
before (c ∷ cs) = before_by c cs (c == 10) refl (before cs)

front_by : (c : ℕ) (cs b : List ℕ) (d : Bool) → c == 10 ≡ d → (one_line (cs ++ b) ≡ true → one_line cs ≡ true) → one_line (c ∷ (cs ++ b)) ≡ true → one_line (c ∷ cs) ≡ true
front_by c cs b true e rest h = let no : false ≡ true = rw e at h in cc
front_by c cs b false e rest h = rw e (rest (rw e at h))

front : (a b : List ℕ) → one_line (a ++ b) ≡ true → one_line a ≡ true
front [] b h = refl
front (c ∷ cs) b h = front_by c cs b (c == 10) refl (front cs b) h

-- a line that ends in byte 13 is what stands before it, and that
return_last : (line : List ℕ) → ends line (codes "\r") ≡ true → line ≡ take (length line - 1) line ++ (13 ∷ [])
return_last line h =
    sym (take-append-drop (length line - 1) line) ∙ ap (λ (t : List ℕ). take (length line - 1) line ++ t) ((bytes_eq-Decides _ _).0 h)

ended_by : (line rest : List ℕ) (b : Bool) → ends line (codes "\r") ≡ b → one_line line ≡ true → Splits (line ++ (10 ∷ rest)) (without_return line) rest
ended_by line rest true e whole =
    let kept = take (length line - 1) line in
    let same = return_last line e in
    rw e (subst (λ (t : List ℕ). Splits t kept rest) (sym (ap (λ (l : List ℕ). l ++ (10 ∷ rest)) same ∙ append_assoc kept (13 ∷ []) (10 ∷ rest)))
    (returned (front kept (13 ∷ []) (subst (λ (l : List ℕ). one_line l ≡ true) same whole))))
ended_by line rest false e whole = rw e (newline whole e)

split_at : (text : List ℕ) → end_of text < length text → Splits text (without_return (take (end_of text) text)) (drop (end_of text + 1) text)
split_at text h =
    let line = take (end_of text) text in
    let rest = drop (end_of text + 1) text in
    subst (λ (t : List ℕ). Splits t (without_return line) rest) (sym (cut text h)) (ended_by line rest (ends line (codes "\r")) refl (before text))

found : (text : List ℕ) → end_of text < length text → position (λ byte. byte == 10) text ≡ Some (end_of text)
found text h = grind (arith, nat_tests)

absent : (text : List ℕ) → length text ≤ end_of text → position (λ byte. byte == 10) text ≡ None
absent text h = grind (arith, nat_tests)

splits : (text : List ℕ) → Splits text (first_line text) (after_first_line text)
splits text =
    ⊎_elim
    (λ (inside : end_of text < length text). rw (found text inside) (split_at text inside))
    (λ (past : length text ≤ end_of text). rw (absent text past) (last (subst (λ (t : List ℕ). one_line t ≡ true) (take_all (end_of text) text past) (before text))))
    (cases_lt (end_of text) (length text))

pub parts_split : {P : Type 0} (text : List ℕ) (r : Option P) (line rest : P → List ℕ) (none : Type 0) →
    MatchOption r none (λ p. (0 < length text) × (line p ≡ first_line text) × (rest p ≡ after_first_line text)) → MatchOption r none (λ p. Splits text (line p) (rest p))
parts_split text None line rest none h = h
parts_split text (Some p) line rest none h = rw (h.1, h.2) (splits text)
