use Rattle.std.proofs.Common.{◌≡◌, ◌++◌, ◌-◌, string_bytes}
use Rattle.bench.specs.State.{state_of}
use Rattle.playback.specs.States.{changed_in}
use Rattle.playback.proofs.states.add_changed_in.Given as goal

-- the text so far and the bytes that are left make the whole
abbrev pub invariant-loop : goal.invariant-loop
invariant-loop g l =
    let t = state_of g.M.ReadMemory l.bench in
    let f = state_of g.F.ReadMemory l.fresh in
    string_bytes l.text ++ changed_in (l.fn.span.length - l.counter) l.address t f ≡ string_bytes l.initial.text ++ changed_in l.fn.span.length l.fn.span.from t f
