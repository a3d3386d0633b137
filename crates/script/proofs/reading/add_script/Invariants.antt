use Rattle.std.proofs.Common.{◌≡◌, ◌+◌, ◌≤◌, length}
use Rattle.commands.specs.Lines.{lines}
use Rattle.script.specs.Script.{script, before, calls_of}
use Rattle.script.proofs.reading.add_script.Given as goal

abbrev pub invariant-loop-first : goal.invariant-loop-first
invariant-loop-first l = (before l.initial.calls.items (script l.text) ≡ before l.calls.items (calls_of (l.line + 1) (lines l.rest))) × (l.line + length l.rest ≤ length l.text)

abbrev pub decreases-loop-first : goal.decreases-loop-first
decreases-loop-first l = length l.rest
