use Rattle.std.proofs.Common.{◌≡◌, ◌-◌}
use Rattle.bench.specs.Calls.{ran_for}
use Rattle.bench.specs.State.{state_of}
use Rattle.session.proofs.straight.run_straight.Given as goal

-- the steps that are left come to what all come to
abbrev pub invariant-loop : goal.invariant-loop
invariant-loop g l =
    let m = g.M.ReadMemory in
    record {
      state : ran_for (l.n - l.counter) (state_of m l.bench) ≡ ran_for l.n (state_of m l.initial.bench);
      rest : g.M.WriteMemory.rest l.bench.memory ≡ g.M.WriteMemory.rest l.initial.bench.memory;
    }
