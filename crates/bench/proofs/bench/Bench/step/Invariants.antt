use Rattle.std.proofs.Common.{◌≡◌, ◌-◌}
use Rattle.bench.proofs.Loops.{Left}
use Rattle.bench.specs.Calls.{open_clocks}
use Rattle.bench.specs.State.{state_of}
use Rattle.bench.proofs.bench.Bench.step.Given as goal

-- what is left of the clocks comes to what all came to from the start
abbrev pub invariant-loop-entry : goal.invariant-loop-entry
invariant-loop-entry g l =
    let m = g.M.ReadMemory in
    record {
      left : Left (state_of m l.initial.self) (state_of m l.self);
      rest : g.M.WriteMemory.rest l.self.memory ≡ g.M.WriteMemory.rest l.initial.self.memory;
    }

abbrev pub decreases-loop-entry : goal.decreases-loop-entry
decreases-loop-entry g l = 4 - open_clocks (state_of g.M.ReadMemory l.self)
