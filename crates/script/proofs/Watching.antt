-- Looks between calls, call by call.
use Rattle.std.proofs.Common.{◌≡◌, refl, ℕ, ◌+◌, ◌<◌, ◌≤◌, List, [], ◌∷◌, ◌++◌, length, drop, drop_of_length-le, get_or}
use Rattle.std.proofs.lemmas.List.{append-nil, append_assoc, drop_more}
use Rattle.bench.specs.declared.look.Look.TheVariants as looks
use Rattle.session.specs.declared.call.Call.{Call}
use Rattle.session.specs.declared.call.Call.TheVariants as calls
use Rattle.script.specs.Looks.{with_looks}

-- a call and its looks
abbrev pub watched_call : Call → List Call
watched_call c = c ∷ calls.Look looks.Phase ∷ calls.Look looks.Pc ∷ calls.Look looks.Clocks ∷ calls.Look looks.Retired ∷ []

-- the call at place i comes with its looks
pub more : (calls watched : List Call) (i : ℕ) (d : Call) → i < length calls → watched ++ watched_call (get_or calls i d) ++ with_looks (drop (i + 1) calls) ≡ watched ++ with_looks (drop i calls)
more calls watched i d within = rw (append_assoc watched (watched_call (get_or calls i d)) (with_looks (drop (i + 1) calls)), drop_more calls i d within) refl

-- there is no more
pub whole : (calls watched : List Call) (i : ℕ) → length calls ≤ i → watched ++ with_looks (drop i calls) ≡ watched
whole calls watched i past = rw (drop_of_length-le calls past) (append-nil watched)

pub ruleset watching = (more, whole)
