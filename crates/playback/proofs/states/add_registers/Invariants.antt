use Rattle.std.proofs.Common.{◌≡◌, ◌++◌, ◌-◌, string_bytes}
use Rattle.bench.specs.State.{state_of}
use Rattle.playback.specs.States.{registers_text}
use Rattle.playback.proofs.states.add_registers.Given as goal

-- the text so far and the registers that are left make the whole
abbrev pub invariant-loop-n : goal.invariant-loop-n
invariant-loop-n g l =
    let t = state_of g.M.ReadMemory l.bench in
    string_bytes l.text ++ registers_text (32 - l.n) l.n t ≡ string_bytes l.initial.text ++ registers_text 32 0 t
