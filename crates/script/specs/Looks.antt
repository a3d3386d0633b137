-- Calls with looks between them.
use Rattle.std.specs.Prelude.{List, [], ◌∷◌}
use Rattle.bench.specs.declared.look.Look.TheVariants as looks
use Rattle.session.specs.declared.call.Call.{Call}
use Rattle.session.specs.declared.call.Call.TheVariants as calls

-- after each call, looks at the phase, at PC and at both counters
abbrev pub with_looks : List Call → List Call
with_looks [] = []
with_looks (c ∷ cs) = c ∷ calls.Look looks.Phase ∷ calls.Look looks.Pc ∷ calls.Look looks.Clocks ∷ calls.Look looks.Retired ∷ with_looks cs
