use Rattle.std.proofs.Common.{rules, Ok, Err, sym, ap, ◌∙◌, arith}
use Rattle.std.proofs.lemmas.Result.{err_from_is_err_and}
use Rattle.arch1.specs.declared.phase.CoreFault.{CoreFault}
use Rattle.bench.proofs.Keeps.{step_kept}
use Rattle.bench.proofs.Loops.{all_left, clock_refused, clock_retired, clock_open}
use Rattle.bench.proofs.Sound.{phase_few}
use Rattle.bench.specs.State.{state_of}
use Rattle.bench.specs.declared.answers.Stepped.{Stepped}
use Rattle.bench.proofs.bench.Bench.step.Goals as goal

pub loop-entry-init : goal.loop-entry-init
loop-entry-init g c = record { left = all_left _; rest = search rules }

pub returns-in_err-entry : goal.returns-in_err-entry
returns-in_err-entry g c =
    let e = c.advance.ensures in
    let inv = c.loop-entry.invariant in
    let y = err_from_is_err_and c.from_residual.result c.from_residual.ensures.1 in
    let all = clock_refused _ _ _ e.state c.in_err-entry.field-0.0 (sym e.answer ∙ c.in_err-entry.was) inv.left in
    let told = y.1 ∙ ap (λ (f : CoreFault). Err f) y.2 ∙ all.0 in
    record { answer = told; state = all.1; rest = e.rest ∙ inv.rest; law = step_kept _ _ _ told all.1 }

pub returns-in-Some : goal.returns-in-Some
returns-in-Some g c =
    let e = c.advance.ensures in
    let inv = c.loop-entry.invariant in
    let all = clock_retired _ _ _ e.state c.in-Some.entry (sym e.answer ∙ c.in_ok-entry.was ∙ ap (λ x. Ok x) c.in-Some.is) inv.left in
    let told = ap (λ (x : Stepped). Ok x) c.into.ensures ∙ all.0 in
    record { answer = told; state = all.1; rest = e.rest ∙ inv.rest; law = step_kept _ _ _ told all.1 }

pub loop-entry-smaller : goal.loop-entry-smaller
loop-entry-smaller g c =
    let e = c.advance.ensures in
    let inv = c.loop-entry.invariant in
    let all = clock_open _ _ _ e.state (sym e.answer ∙ c.in_ok-entry.was ∙ ap (λ x. Ok x) c.in_default.is) inv.left in
    let few = phase_few (state_of g.M.ReadMemory c.loop-entry.self).core.phase in
    omega (arith, all.1)

pub loop-entry-preserved : goal.loop-entry-preserved
loop-entry-preserved g c =
    let e = c.advance.ensures in
    let inv = c.loop-entry.invariant in
    let all = clock_open _ _ _ e.state (sym e.answer ∙ c.in_ok-entry.was ∙ ap (λ x. Ok x) c.in_default.is) inv.left in
    record { left = all.0; rest = e.rest ∙ inv.rest }
