use Rattle.std.proofs.Common.{string_bytes}
use Rattle.bench.specs.State.{state_of}
use Rattle.tracer.proofs.Turns.{Left}
use Rattle.tracer.proofs.whole.trace_steps.Given as goal

abbrev pub invariant-loop : goal.invariant-loop
invariant-loop g l = let m = g.M.ReadMemory in Left l.limit l.counter (state_of m l.initial.bench) (state_of m l.bench) (string_bytes l.initial.text) (string_bytes l.text)
