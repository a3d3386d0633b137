use Rattle.std.proofs.Common.{◌≡◌, Ok, Err, sym, ap, ◌∙◌, arith, rules}
use Rattle.std.proofs.lemmas.Result.{err_from_is_err_and}
use Rattle.bench.proofs.Loops.{next_step, refused_step, no_step, refusal_of}
use Rattle.bench.specs.State.{state_of}
use Rattle.bench.specs.declared.answers.RunFault.{RunFault}
use Rattle.bench.specs.declared.answers.Stop.TheVariants as stop
use Rattle.bench.proofs.bench.Bench.steps.Goals as goal

pub returns-in_err-map_err : goal.returns-in_err-map_err
returns-in_err-map_err g c =
    let n = c.args.n in
    let inv = c.loop-done.invariant in
    let e = c.step.ensures in
    let y = err_from_is_err_and c.from_residual.result c.from_residual.ensures.1 in
    let was = refusal_of c.step.result c.map_err.result _ c.in_err-map_err.field-0.0 c.in_err-map_err.was c.map_err.ensures.cases in
    let gave : c.in_err-map_err.field-0.0 ≡ record { done = c.loop-done.done-counter; stop = stop.Core was.0 } = search (rules, was.2) in
    let all = refused_step _ _ c.loop-done.done-counter n (omega arith) e.state was.0 (sym e.answer ∙ was.1) in
    let told = y.1 ∙ ap (λ (f : RunFault). Err f) (y.2 ∙ gave) ∙ all.0 ∙ inv.answer in
    record { answer = told; state = all.1 ∙ inv.state; rest = e.rest ∙ inv.rest }

pub loop-done-preserved : goal.loop-done-preserved
loop-done-preserved g c =
    let inv = c.loop-done.invariant in
    let e = c.step.ensures in
    let x = c.in_ok-map_err.field-0 in
    let was : c.step.result ≡ Ok x = grind arith in
    let all = next_step _ _ c.loop-done.done-counter c.args.n (omega arith) e.state x (sym e.answer ∙ was) in
    record { answer = all.0 ∙ inv.answer; state = all.1 ∙ inv.state; rest = e.rest ∙ inv.rest }

pub returns : goal.returns
returns g c =
    let inv = c.loop-done.invariant in
    let end = no_step c.loop-done.done-counter c.args.n (state_of g.M.ReadMemory c.loop-done.self) (omega arith) in
    record { answer = end.0 ∙ inv.answer; state = end.1 ∙ inv.state; rest = inv.rest }
