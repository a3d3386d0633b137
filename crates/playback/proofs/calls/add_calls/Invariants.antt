use Rattle.std.proofs.Common.{◌≡◌, ◌++◌, length, string_bytes}
use Rattle.playback_lines.specs.Lines.{call_lines}
use Rattle.playback.proofs.calls.add_calls.Given as goal

-- the text so far and the lines that are left make the whole
abbrev pub invariant-loop-left : goal.invariant-loop-left
invariant-loop-left l = string_bytes l.text ++ call_lines l.left l.given ≡ string_bytes l.initial.text ++ call_lines l.calls l.answers

abbrev pub decreases-loop-left : goal.decreases-loop-left
decreases-loop-left l = length l.left
