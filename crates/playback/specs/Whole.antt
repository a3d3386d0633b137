-- All that is told of a script that was played.
use Rattle.std.specs.Prelude.{ℕ, List, ◌++◌}
use Rattle.std.specs.Str.{bytes_eq}
use Rattle.playback_lines.specs.Lines.{call_lines, played_head, straight_head, verdict}
use Rattle.session.specs.declared.call.Answer.{Answer}
use Rattle.session.specs.declared.call.Call.{Call}

-- the calls with these answers, how many instructions stand, the state that the calls led to, and that of as many steps alone
abbrev pub whole_text : List Call → List Answer → ℕ → List ℕ → List ℕ → List ℕ
whole_text cs given n by_calls by_steps =
    call_lines cs given ++ (played_head n ++ (by_calls ++ (straight_head n ++ (by_steps ++ verdict (bytes_eq by_calls by_steps)))))
