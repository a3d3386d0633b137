-- A report grows line by line.
use Rattle.std.proofs.Common.{◌≡◌, ℕ, ◌+◌, ◌%◌, ◌^◌, ◌<◌, ◌≤◌, cond, arith, Bool, true, false, List, [], ◌++◌, get_or, length, take, refl, sym, ap, ◌∙◌}
use mir.Val.{bool_byte}
use Rattle.std.specs.List.{count_by, flat_map, sum_by}
use Rattle.std.proofs.lemmas.List.Sums.{sum_by_more}
use Rattle.std.specs.Prelude.{if◌then◌else◌}
use Rattle.std.proofs.lemmas.List.{flat_map_more, take_more}
use Rattle.rv32ui_report.specs.Lines.{failure_of}
use Rattle.rv32ui_report.specs.Report.{same, way_text}
use Rattle.rv32ui_cases.specs.Runs.{expected_of, seen_over}
use Rattle.rv32ui_cases.specs.declared.program.Program.{Program}
use Rattle.rv32ui_cases.specs.declared.running.Calls.{Calls}
use Rattle.rv32ui_cases.specs.declared.running.Over.{Over}
use Rattle.rv32ui_cases.specs.declared.running.Seen.{Seen}

pub failed : (name : List ℕ) (case : ℕ) (p : Program) (w : Over × Calls) (came expected : Seen) (before after : List ℕ) →
    came ≡ seen_over p w.0 w.1 → expected ≡ expected_of p w.0 → same came expected ≡ false → after ≡ before ++ failure_of name case w.0 w.1 p.register came expected →
    after ≡ before ++ way_text name case p w
failed name case p w came expected before after is_came is_expected differ line =
    line
    ∙ ap (λ (s : Seen). before ++ failure_of name case w.0 w.1 p.register s expected) is_came
    ∙ ap (λ (s : Seen). before ++ failure_of name case w.0 w.1 p.register (seen_over p w.0 w.1) s) is_expected
    ∙ ap (λ (b : Bool). before ++ (if b then [] else failure_of name case w.0 w.1 p.register (seen_over p w.0 w.1) (expected_of p w.0)))
    {x = false} {y = same (seen_over p w.0 w.1) (expected_of p w.0)} (sym differ ∙ ap (λ (s : Seen). same s expected) is_came ∙ ap (λ (s : Seen). same (seen_over p w.0 w.1) s) is_expected)

-- the text after one more piece
pub one_more_line : {X : Type 0} (f : X → List ℕ) (xs : List X) (i : ℕ) (d : X) (start before after : List ℕ) → i < length xs →
    before ≡ start ++ flat_map f (take i xs) → after ≡ before ++ f (get_or xs i d) → after ≡ start ++ flat_map f (take (i + 1) xs)
one_more_line f xs i d start before after within so_far line =
    line ∙ ap (λ (t : List ℕ). t ++ f (get_or xs i d)) so_far ∙ flat_map_more f start (take i xs) (get_or xs i d) ∙ ap (λ t. start ++ flat_map f t) (sym (take_more xs i d within))

pub at_most_one : (b : Bool) → bool_byte b ≤ 1
at_most_one true = omega arith
at_most_one false = omega arith

one_or_none : (b : Bool) → bool_byte b ≡ cond b 1 0
one_or_none true = refl
one_or_none false = refl

-- a count after one more element
pub one_more_counted : {X : Type 0} (p : X → Bool) (xs : List X) (i : ℕ) (d : X) (b : Bool) (n one : ℕ) → i < length xs →
    n ≡ count_by p (take i xs) → b ≡ p (get_or xs i d) → one ≡ bool_byte b → n + one ≡ count_by p (take (i + 1) xs)
one_more_counted p xs i d b n one within so_far is e =
    ap (λ (k : ℕ). k + one) so_far ∙ ap (λ (k : ℕ). count_by p (take i xs) + k) (e ∙ one_or_none b ∙ ap (λ (c : Bool). cond c 1 0) is)
    ∙ sym (sum_by_more (λ x. cond (p x) 1 0) xs i d within)

-- a sum modulo 2 ^ 64 after one more element
pub one_more_summed : {X : Type 0} (f : X → ℕ) (xs : List X) (i : ℕ) (d : X) (a n : ℕ) → i < length xs →
    a ≡ sum_by f (take i xs) % 2 ^ 64 → n ≡ f (get_or xs i d) → (a + n) % 2 ^ 64 ≡ sum_by f (take (i + 1) xs) % 2 ^ 64
one_more_summed f xs i d a n within so_far is = rw (sum_by_more f xs i d within) (omega (arith, so_far, is))
