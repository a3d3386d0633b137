use Rattle.std.proofs.Common.{◌≡◌, ◌++◌, drop}
use Rattle.script.specs.Looks.{with_looks}
use Rattle.script.proofs.looks.with_looks.Given as goal

abbrev pub invariant-loop-call : goal.invariant-loop-call
invariant-loop-call l = l.watched.items ++ with_looks (drop l.call-index l.calls) ≡ with_looks l.calls
