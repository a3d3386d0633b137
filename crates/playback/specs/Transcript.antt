-- What is told of calls on a bench, and of the instructions that stand after them.
use Rattle.std.specs.Prelude.{◌≡◌, ℕ, List}
use Rattle.bench.specs.Law.{Start}
use Rattle.bench.specs.State.{State}
use Rattle.playback.specs.States.{state_text}
use Rattle.playback.specs.Whole.{whole_text}
use Rattle.playback.specs.declared.states.Span.{Span}
use Rattle.script.specs.Looks.{with_looks}
use Rattle.session.specs.Lawful.{fresh_of}
use Rattle.session.specs.Replays.{Replays}
use Rattle.session.specs.declared.call.Answer.{Answer}
use Rattle.session.specs.declared.call.Call.{Call}

-- the calls cs, each with looks after it, on a new bench of s, and as many steps alone on one of z as instructions stand. The text tells of
-- the calls and of both states, with the bytes that are not as on a new bench of y. From the same start both states are shown alike.
pub record Transcript (s z y : Start) (image bank : Span) (cs : List Call) (text : List ℕ) : Type 0 where
  pub given : List Answer
  pub standing : ℕ
  pub played : State
  pub straight : State
  pub replays : Replays s z (with_looks cs) given standing played straight
  pub tells : text ≡ whole_text cs given standing (state_text image bank played (fresh_of y)) (state_text image bank straight (fresh_of y))
  pub alike : z.kinds ≡ s.kinds → z.arch ≡ s.arch → state_text image bank straight (fresh_of y) ≡ state_text image bank played (fresh_of y)
