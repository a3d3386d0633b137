use Rattle.std.proofs.Common.{◌∙◌, sym, arith}
use Rattle.bench.proofs.Loops.{next_step, refused_step, no_step}
use Rattle.session.proofs.straight.run_straight.Goals as goal

pub returns-in_default-clause-state : goal.returns-in_default-clause-state
returns-in_default-clause-state g c =
    let l = c.loop in let e = c.step.ensures in
    let all = refused_step _ _ l.counter c.args.n (omega arith) e.state c.in_default.field-0 (sym e.answer ∙ c.in_default.is) in all.1 ∙ l.invariant.state

pub loop-preserved : goal.loop-preserved
loop-preserved g c =
    let l = c.loop in let e = c.step.ensures in
    let all = next_step _ _ l.counter c.args.n (omega arith) e.state c.in-Ok.field-0 (sym e.answer ∙ c.in-Ok.is) in
    record { state = all.1 ∙ l.invariant.state; rest = e.rest ∙ l.invariant.rest }

pub returns-clause-state : goal.returns-clause-state
returns-clause-state g c = let end = no_step c.loop.counter c.args.n _ (omega arith) in end.1 ∙ c.loop.invariant.state
