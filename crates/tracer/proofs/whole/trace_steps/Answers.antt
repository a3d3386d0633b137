use Rattle.std.proofs.Common.{arith}
use Rattle.tracer.proofs.Turns.{no_step, next_step, refused_step}
use Rattle.tracer.proofs.whole.trace_steps.Goals as goal

pub returns-in-Err : goal.returns-in-Err
returns-in-Err g c =
    let e = c.in_ok-fault.ensures in
    let done = refused_step _ _ _ _ _ _ c.loop.invariant c.loop-test.true _ e.state _ c.in_ok-fault.field-0 e.answer e.line c.in-Err.fault c.in-Err.is c.into.result c.into.ensures in
    record { refusal = done.refusal; state = done.state; lines = done.lines }

pub loop-preserved : goal.loop-preserved
loop-preserved g c =
    let e = c.in_ok-fault.ensures in
    next_step _ _ _ _ _ _ c.loop.invariant c.loop-test.true _ e.state _ c.in_ok-fault.field-0 e.answer e.line c.in_default.field-0 c.in_default.is

pub returns : goal.returns
returns g c = let done = no_step _ _ _ _ _ _ c.loop.invariant (omega arith) in record { refusal = done.refusal; state = done.state; lines = done.lines }
