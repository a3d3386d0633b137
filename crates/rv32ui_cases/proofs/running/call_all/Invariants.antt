use Rattle.std.proofs.Common.{◌≡◌}
use Rattle.bench.specs.State.{state_of}
use Rattle.rv32ui_cases.specs.Runs.{after}
use Rattle.rv32ui_cases.proofs.running.call_all.Given as goal

abbrev pub invariant-loop-done : goal.invariant-loop-done
invariant-loop-done g l = let m = g.M.ReadMemory in state_of m l.bench ≡ after l.calls l._done (state_of m l.initial.bench)
