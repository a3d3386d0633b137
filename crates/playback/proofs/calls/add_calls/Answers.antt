use Rattle.std.proofs.Common.{ap, ◌∙◌, ◌++◌, List, ℕ, sym, string_bytes, arith, ltb-true, ltb-false}
use Rattle.playback.proofs.Growing.{ended}
use Rattle.playback.proofs.Telling.{one_more, no_call, no_answers, smaller}
use Rattle.playback.proofs.calls.add_calls.Goals as goal

pub loop-left-smaller : goal.loop-left-smaller
loop-left-smaller c = smaller c.loop-left.left.now (omega (arith, ltb-true, ltb-false))

pub loop-left-preserved : goal.loop-left-preserved
loop-left-preserved c = let l = c.loop-left in one_more l.left.now l.given.now _ _ _ _ _ (omega (arith, ltb-true, ltb-false)) (omega (arith, ltb-true, ltb-false)) c.in_ok-write.ensures.bytes l.invariant

pub returns-in_default : goal.returns-in_default
returns-in_default c = let l = c.loop-left in ended _ _ (ap (λ (x : List ℕ). string_bytes l.text ++ x) (sym (no_call l.left.now l.given.now c.in_default.len_below)) ∙ l.invariant)

pub returns-in_default-2 : goal.returns-in_default-2
returns-in_default-2 c = let l = c.loop-left in ended _ _ (ap (λ (x : List ℕ). string_bytes l.text ++ x) (sym (no_answers l.left.now l.given.now (omega (arith, ltb-true, ltb-false)))) ∙ l.invariant)
