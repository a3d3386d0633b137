-- The lines of calls, one after another.
use Rattle.std.proofs.Common.{◌≡◌, ℕ, suc, ◌-◌, ◌<◌, ◌≤◌, Bool, List, [], ◌∷◌, ◌++◌, length, get_or, take, drop, refl, arith}
use Rattle.std.proofs.lemmas.List.{take_all}
use Rattle.playback.proofs.Growing.{grown}
use Rattle.playback_lines.specs.Lines.{step_line, call_lines, played_head, straight_head, verdict}
use Rattle.playback.specs.Whole.{whole_text}
use Rattle.std.specs.Str.{bytes_eq}
use Rattle.session.specs.declared.call.Answer.{Answer}
use Rattle.session.specs.declared.call.Call.{Call}

-- a call with its answers, and the lines that are left
pub one_more : (cs : List Call) (gs : List Answer) (c : Call) (d : Answer) (before whole after : List ℕ) → 1 ≤ length cs → 5 ≤ length gs →
    after ≡ before ++ step_line (get_or cs 0 c) (get_or gs 0 d) (get_or gs 1 d) (get_or gs 2 d) (get_or gs 3 d) (get_or gs 4 d) →
    before ++ call_lines cs gs ≡ whole → after ++ call_lines (take (length cs - 1) (drop 1 cs)) (take (length gs - 5) (drop 5 gs)) ≡ whole
one_more (x ∷ cs) (a ∷ p ∷ q ∷ k ∷ r ∷ more) c d before whole after m n e h =
    let one : suc (length cs) - 1 ≡ length cs = omega arith in
    let five : suc (suc (suc (suc (suc (length more))))) - 5 ≡ length more = omega arith in
    rw (one, five, take_all (length cs) cs (omega arith), take_all (length more) more (omega arith)) (grown before _ (call_lines cs more) after whole e h)
one_more [] gs c d before whole after m n e h = absurd (omega (arith, m))
one_more (x ∷ cs) [] c d before whole after m n e h = absurd (omega (arith, n))
one_more (x ∷ cs) (a ∷ []) c d before whole after m n e h = absurd (omega (arith, n))
one_more (x ∷ cs) (a ∷ p ∷ []) c d before whole after m n e h = absurd (omega (arith, n))
one_more (x ∷ cs) (a ∷ p ∷ q ∷ []) c d before whole after m n e h = absurd (omega (arith, n))
one_more (x ∷ cs) (a ∷ p ∷ q ∷ k ∷ []) c d before whole after m n e h = absurd (omega (arith, n))

-- no call is left, or too few answers
pub no_call : (cs : List Call) (gs : List Answer) → length cs < 1 → call_lines cs gs ≡ []
no_call [] gs h = refl
no_call (c ∷ cs) gs h = absurd (omega (arith, h))

pub no_answers : (cs : List Call) (gs : List Answer) → length gs < 5 → call_lines cs gs ≡ []
no_answers [] gs h = refl
no_answers (c ∷ cs) [] h = refl
no_answers (c ∷ cs) (a ∷ []) h = refl
no_answers (c ∷ cs) (a ∷ p ∷ []) h = refl
no_answers (c ∷ cs) (a ∷ p ∷ q ∷ []) h = refl
no_answers (c ∷ cs) (a ∷ p ∷ q ∷ k ∷ []) h = refl
no_answers (c ∷ cs) (a ∷ p ∷ q ∷ k ∷ r ∷ more) h = absurd (omega (arith, h))

pub smaller : (cs : List Call) → 1 ≤ length cs → length (take (length cs - 1) (drop 1 cs)) < length cs
smaller [] h = absurd (omega (arith, h))
smaller (c ∷ cs) h = let one : suc (length cs) - 1 ≡ length cs = omega arith in rw (one, take_all (length cs) cs (omega arith)) (omega arith)

-- all that is told, piece by piece
pub told : (cs : List Call) (gs : List Answer) (n : ℕ) (empty text after a b x y : List ℕ) (same : Bool) → empty ≡ [] → text ≡ empty ++ call_lines cs gs →
    a ≡ x → b ≡ y → same ≡ bytes_eq a b → after ≡ text ++ (played_head n ++ (a ++ (straight_head n ++ (b ++ verdict same)))) → after ≡ whole_text cs gs n x y
told cs gs n empty text after a b x y same e f g h k l = rw (l, f, e, k, g, h) refl
