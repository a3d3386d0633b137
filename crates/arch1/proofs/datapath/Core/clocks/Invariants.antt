use Rattle.std.proofs.Common.{◌≡◌, ◌-◌}
use Rattle.arch1.specs.Refinement.{rig, answer_for, rig_for}
use Rattle.arch1.proofs.datapath.Core.clocks.Given as goal

-- what is left of four clocks comes to what four came to from the start
abbrev pub invariant-loop-done : goal.invariant-loop-done
invariant-loop-done g l =
    let m = g.M.ReadMemory in
    let K = m.kinds l.initial.memory in
    let s = rig l.self (m.words l.memory) in
    let start = rig l.initial.self (m.words l.initial.memory) in
    record {
      answer : answer_for K (4 - l.done) l.done s ≡ answer_for K 4 0 start;
      state : rig_for K (4 - l.done) s ≡ rig_for K 4 start;
      kinds : m.kinds l.memory ≡ K;
      rest : g.M.WriteMemory.rest l.memory ≡ g.M.WriteMemory.rest l.initial.memory;
    }
