use Rattle.std.proofs.Common.{Err, ap, ◌∙◌, arith}
use Rattle.std.proofs.lemmas.Result.{err_from_is_err_and}
use Rattle.arch1.proofs.Instructions.{next_clock, last_clock, refused_clock, no_clock, instruction_refines}
use Rattle.arch1.specs.Refinement.{rig}
use Rattle.arch1.specs.declared.phase.CoreFault.{CoreFault}
use Rattle.arch1.proofs.datapath.Core.clocks.Goals as goal

pub returns-in_err-tick : goal.returns-in_err-tick
returns-in_err-tick g c =
    let m = g.M.ReadMemory in
    let K = m.kinds c.args.memory.now in
    let s = rig c.loop-done.self (m.words c.loop-done.memory) in
    let t = rig c.tick.new.self (m.words c.tick.new.memory) in
    let inv = c.loop-done.invariant in
    let e = c.tick.ensures in
    let y = err_from_is_err_and c.from_residual.result c.from_residual.ensures.1 in
    let all = refused_clock K _ inv.kinds s t _ c.loop-done.done (omega arith) e.answer e.core e.words c.in_err-tick.field-0.0 c.in_err-tick.was in
    let told = y.1 ∙ ap (λ (f : CoreFault). Err f) y.2 ∙ all.0 ∙ inv.answer in
    let came = all.1 ∙ inv.state in
    record { answer = told; state = came; kinds = e.kinds ∙ inv.kinds; rest = e.rest ∙ inv.rest; law = instruction_refines _ _ _ _ _ told came }

pub returns-then-branch : goal.returns-then-branch
returns-then-branch g c =
    let m = g.M.ReadMemory in
    let K = m.kinds c.args.memory.now in
    let s = rig c.loop-done.self (m.words c.loop-done.memory) in
    let t = rig c.tick.new.self (m.words c.tick.new.memory) in
    let inv = c.loop-done.invariant in
    let e = c.tick.ensures in
    let all = last_clock K _ inv.kinds s t _ c.loop-done.done (omega arith) e.answer e.core e.words c.in_ok-tick.field-0 c.in_ok-tick.was c.if-branch.true in
    let told = all.0 ∙ inv.answer in
    let came = all.1 ∙ inv.state in
    record { answer = told; state = came; kinds = e.kinds ∙ inv.kinds; rest = e.rest ∙ inv.rest; law = instruction_refines _ _ _ _ _ told came }

pub loop-done-preserved : goal.loop-done-preserved
loop-done-preserved g c =
    let m = g.M.ReadMemory in
    let K = m.kinds c.args.memory.now in
    let s = rig c.loop-done.self (m.words c.loop-done.memory) in
    let t = rig c.tick.new.self (m.words c.tick.new.memory) in
    let inv = c.loop-done.invariant in
    let e = c.tick.ensures in
    let all = next_clock K _ inv.kinds s t _ c.loop-done.done (omega arith) e.answer e.core e.words c.in_ok-tick.field-0 c.in_ok-tick.was c.if-branch.false in
    record { answer = all.0 ∙ inv.answer; state = all.1 ∙ inv.state; kinds = e.kinds ∙ inv.kinds; rest = e.rest ∙ inv.rest }

pub returns : goal.returns
returns g c =
    let m = g.M.ReadMemory in
    let K = m.kinds c.args.memory.now in
    let s = rig c.loop-done.self (m.words c.loop-done.memory) in
    let inv = c.loop-done.invariant in
    let all = no_clock K s c.loop-done.done (omega arith) in
    let told = all.0 ∙ inv.answer in
    let came = all.1 ∙ inv.state in
    record { answer = told; state = came; kinds = inv.kinds; rest = inv.rest; law = instruction_refines _ _ _ _ _ told came }
