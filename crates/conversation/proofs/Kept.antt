-- The law after each line.
use Rattle.std.proofs.Common.{◌≡◌, ℕ, List, sym, subst}
use Rattle.bench.proofs.Keeps.{reached_stands}
use Rattle.bench.specs.Law.{Start, Reached, Kept, ticked, did_step, did_run, went_back}
use Rattle.bench.specs.State.{State}
use Rattle.commands.specs.Reading.{line_of}
use Rattle.commands.specs.declared.command.Command.TheVariants as command
use Rattle.commands.specs.declared.command.Line.{Line}
use Rattle.commands.specs.declared.command.Line.TheVariants as line
use Rattle.conversation.specs.Conversations.{StaysLawful}
use Rattle.conversation.specs.Replies.{after_line, line_count, state_after, LineKept}
use Rattle.session.specs.declared.call.Call.TheVariants as call

line_reached : (l : Line) (s : Start) (n : ℕ) (t : State) → Reached s n t → Reached s (line_count l t n) (after_line l t)
line_reached line.Empty s n t h = h
line_reached (line.Command (command.Call call.Tick)) s n t h = ticked n t h
line_reached (line.Command (command.Call call.Step)) s n t h = did_step n t h
line_reached (line.Command (command.Call (call.Run m))) s n t h = did_run n m t h
line_reached (line.Command (command.Call call.Back)) s n t h = went_back n t h
line_reached (line.Command (command.Call (call.Look at))) s n t h = h
line_reached (line.Command command.Show) s n t h = h
line_reached (line.Command command.Quit) s n t h = h
line_reached line.Other s n t h = h

pub line_kept : (text : List ℕ) (t u : State) → u ≡ state_after text t → LineKept text t u
unfolding LineKept
line_kept text t u after =
    subst (Kept (line_count (line_of text) t) t) (sym after)
    (record {
      reached = λ s n h. line_reached (line_of text) s n t h;
      stands = λ s n h. reached_stands s _ _ (line_reached (line_of text) s n t h);
    })

-- after no line, after one, and after some and some more
pub stays_same : (t : State) → StaysLawful t t
stays_same t = record { count = λ n. n; kept = record { reached = λ s n h. h; stands = λ s n h. reached_stands s n t h } }

pub stays_by_line : (text : List ℕ) (t u : State) → LineKept text t u → StaysLawful t u
unfolding LineKept
stays_by_line text t u k = record { count = line_count (line_of text) t; kept = k }

pub stays_on : (t u v : State) → StaysLawful t u → StaysLawful u v → StaysLawful t v
stays_on t u v k l = record {
  count = λ n. l.count (k.count n);
  kept = record { reached = λ s n h. l.kept.reached s (k.count n) (k.kept.reached s n h); stands = λ s n h. l.kept.stands s (k.count n) (k.kept.reached s n h) };
}
