use Rattle.std.proofs.Common.{◌≡◌, ◌-◌}
use Rattle.bench.specs.Calls.{run_answer_for, ran_for}
use Rattle.bench.specs.State.{state_of}
use Rattle.bench.proofs.bench.Bench.steps.Given as goal

-- what is left of the steps comes to what all came to from the start
abbrev pub invariant-loop-done : goal.invariant-loop-done
invariant-loop-done g l =
    let m = g.M.ReadMemory in
    let done = l.done-counter in
    record {
      answer : run_answer_for done (l.n - done) (state_of m l.self) ≡ run_answer_for 0 l.n (state_of m l.initial.self);
      state : ran_for (l.n - done) (state_of m l.self) ≡ ran_for l.n (state_of m l.initial.self);
      rest : g.M.WriteMemory.rest l.self.memory ≡ g.M.WriteMemory.rest l.initial.self.memory;
    }
