use Rattle.std.proofs.Common.{◌≡◌}
use Rattle.bench.specs.State.{state_of}
use Rattle.session.proofs.Prefixes.{Made}
use Rattle.session.proofs.playing.make_all.Given as goal

abbrev pub invariant-loop-k : goal.invariant-loop-k
invariant-loop-k g l =
    let m = g.M.ReadMemory in
    record {
      made : Made (state_of m l.initial.bench) l.calls l.initial.places l.k (state_of m l.bench) l.places;
      rest : g.M.WriteMemory.rest l.bench.memory ≡ g.M.WriteMemory.rest l.initial.bench.memory;
    }
