use Rattle.std.proofs.Common.{arith, ◌++◌, ap, ◌∙◌, string_bytes}
use Rattle.arch1.specs.Datapath.{Datapath}
use Rattle.clock_table.specs.Lines.{clock_of}
use Rattle.clock_table.proofs.Turns.{at_most_one, next_clock, refused_clock, no_clock, no_instruction_lem}
use Rattle.clock_table.proofs.clocks.show.Goals as goal

pub returns-then-instructions-limit : goal.returns-then-instructions-limit
returns-then-instructions-limit g c = no_instruction_lem _ _ _ _ _ _ _ _ c.loop-clocks.invariant.so_far _ c.if-instructions-limit.true c.in_ok-write-2.ensures.bytes

pub loop-clocks-preserved : goal.loop-clocks-preserved
loop-clocks-preserved g c = let l = c.loop-clocks in let e = c.tick.ensures in
    let line = c.in_ok-write-in-Ok.ensures.bytes ∙ ap (λ (d : Datapath). string_bytes l.text ++ clock_of d.phase c.tick.new.self) c.core.view_is in record {
      few = omega (arith, c.from-instructions.ensures, at_most_one c.in-Ok.ticked.retired);
      so_far = next_clock _ _ _ _ _ _ _ _ l.invariant.so_far _ l.invariant.kinds _ e.answer c.loop-clocks-test.true c.if-instructions-limit.false _ _ e.core e.words
          c.in-Ok.ticked _ c.in-Ok.is c.from-instructions.ensures line;
      kinds = e.kinds ∙ l.invariant.kinds;
    }

pub returns-in-Err : goal.returns-in-Err
returns-in-Err g c = let l = c.loop-clocks in
    refused_clock _ _ _ _ _ _ _ _ l.invariant.so_far _ l.invariant.kinds _ c.tick.ensures.answer c.loop-clocks-test.true c.if-instructions-limit.false _
    c.in-Err.fault c.in-Err.is c.in_ok-write-in-Err.ensures.bytes

pub returns : goal.returns
returns g c = no_clock _ _ _ _ _ _ _ _ c.loop-clocks.invariant.so_far _ (omega arith) c.in_ok-write-3.ensures.bytes
