use Rattle.std.proofs.Common.{rules, arith}
use Rattle.script.proofs.Lines.{more_read, quit_read, less_left}
use Rattle.script.proofs.reading.add_script.Goals as goal

pub loop-first-preserved : goal.loop-first-preserved
loop-first-preserved c =
    let less = less_left c.loop-first.rest.now c.in-Some.after.now c.in-Some.ensures.value.2 c.in-Some.ensures.value.0 in
    (search (rules, more_read), omega (arith, less, c.loop-first.invariant.1))

pub loop-first-smaller : goal.loop-first-smaller
loop-first-smaller c = less_left c.loop-first.rest.now c.in-Some.after.now c.in-Some.ensures.value.2 c.in-Some.ensures.value.0

pub returns-in-None-clause-calls : goal.returns-in-None-clause-calls
returns-in-None-clause-calls c = search (rules, quit_read)
