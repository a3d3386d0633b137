-- Conversations, scripts and traces.
use Rattle.std.proofs.Common.{◌≡◌, ℕ, suc, ◌<◌, Bool, true, false, eqb, List, [], ◌∷◌, length, Some, Ok, Err, Result, refl, ap, ◌∙◌, arith}
use Rattle.std.specs.Fmt.{digits}
use Rattle.std.specs.Prelude.{codes}
use Rattle.isa.specs.Decoding.{reading_of}
use Rattle.bench.specs.Calls.{stepped_for, stepped_state}
use Rattle.bench.specs.Law.{fresh}
use Rattle.bench.specs.State.{State}
use Rattle.benchfile.specs.declared.refusals.Refusal.TheVariants.{NotBenchFile}
use Rattle.commands.specs.Lines.{lines_of_first}
use Rattle.conversation.proofs.Kept as kept
use Rattle.conversation.specs.Conversations as conversations
use Rattle.conversation.specs.Conversations.{Partly, StaysLawful, Turn, conversation, led_to, lines_taken, behind_lines}
use Rattle.conversation.specs.Files.{LeftOver, SentOver}
use Rattle.conversation.specs.Replies.{LineKept}
use Rattle.memory.specs.declared.kind.Kind.{Kind}
use Rattle.memory.specs.declared.kind.Kind.TheVariants.{Absent, Open}
use Rattle.script.specs.Script.{FaultOf}
use Rattle.script.specs.declared.fault.ScriptFault.TheVariants.{NoCommand}
use Rattle.session.specs.Lawful.{fresh_of}
use Rattle.session.specs.declared.call.Call.{Call}
use Rattle.tracer.specs.Steps.{PcFits}
use Rattle.witnesses.proofs.Apart.{apart}
use Rattle.witnesses.proofs.Keeping.{count_moved}
use Rattle.witnesses.specs.Benches.{empty, one}
use Rattle.witnesses.specs.Files.{at_two_to_32, file, plain}

not_by_look : LineKept (codes "look pc") (fresh_of one) (stepped_state (fresh_of one)) → ⊥
unfolding reading_of stepped_for LineKept
not_by_look k = apart (λ n. eqb n 1) 1 0 refl refl (k.stands one 0 fresh).retired

pub step_line : LineKept (codes "step") (fresh_of one) (stepped_state (fresh_of one)) × (LineKept (codes "look pc") (fresh_of one) (stepped_state (fresh_of one)) → ⊥)
step_line = (kept.line_kept (codes "step") (fresh_of one) (stepped_state (fresh_of one)) refl, not_by_look)

abbrev is_open : Kind → Bool
is_open Open = true
is_open _ = false

pub stays : StaysLawful (fresh_of one) (stepped_state (fresh_of one)) × (StaysLawful (fresh_of empty) (fresh_of one) → ⊥)
stays = (
  record { count = suc; kept = count_moved.0 },
  λ k. apart is_open Open Absent refl refl (ap (λ (K : ℕ → Kind). K 0) (k.kept.stands empty 0 fresh).kinds),
)

here : Turn false (fresh_of one) (fresh_of one) [] (Some []) (Some []) (Some [])
unfolding conversation led_to lines_taken behind_lines lines_of_first
here = record { rest = []; sent = []; reads = refl; wrote = refl; says = refl; leads = refl; leaves = refl; part = λ e u p. cc }

elsewhere : Turn false (fresh_of one) (stepped_state (fresh_of one)) [] (Some []) (Some []) (Some []) → ⊥
unfolding conversation led_to lines_of_first reading_of stepped_for
elsewhere t = apart (λ n. eqb n 0) 0 1 refl refl (ap (λ s. s.retired) t.leads)

more_sent : Turn false (fresh_of one) (fresh_of one) [] (Some []) (Some []) (Some (codes "a")) → ⊥
unfolding conversation lines_of_first
more_sent t = apart (λ l. eqb (length l) 1) (codes "a") [] refl refl (t.wrote ∙ grind (arith, t.says))

pub ended : Turn false (fresh_of one) (fresh_of one) [] (Some []) (Some []) (Some []) × (Turn false (fresh_of one) (stepped_state (fresh_of one)) [] (Some []) (Some []) (Some []) → ⊥) × (Turn false (fresh_of one) (fresh_of one) [] (Some []) (Some []) (Some (codes "a")) → ⊥)
ended = (here, elsewhere, more_sent)

-- no line leads anywhere, and a step does
not_stepped : (t : State) → Partly (fresh_of one) [] t → t.retired ≡ 0
not_stepped t conversations.here = refl

pub partly : Partly (fresh_of one) (codes "step" ∷ []) (stepped_state (fresh_of one)) × (Partly (fresh_of one) [] (stepped_state (fresh_of one)) → ⊥)
unfolding reading_of stepped_for
partly = (conversations.on conversations.here, λ p. apart (λ n. eqb n 1) 1 0 refl refl (not_stepped _ p))

pub left_over : LeftOver (Ok file) plain (Some []) (Some []) × (LeftOver (Ok file) plain (Some []) (Some (codes "a")) → ⊥)
unfolding lines_taken behind_lines lines_of_first
left_over = (refl, λ l. let none : Some (codes "a") ≡ Some [] = l in cc)

pub left_unread : LeftOver (Err NotBenchFile) plain (Some (codes "a")) (Some (codes "a")) × (LeftOver (Err NotBenchFile) plain (Some (codes "a")) (Some []) → ⊥)
left_unread = (refl, λ l. let all : Some [] ≡ Some (codes "a") = l in cc)

pub over_file : SentOver (Ok file) plain (Some []) (Some []) (Some []) × (SentOver (Ok file) plain (Some []) (Some []) (Some (codes "a")) → ⊥)
unfolding conversation lines_of_first
over_file = (refl, λ s. apart (λ l. eqb (length l) 1) (codes "a") [] refl refl s)

pub over_none : SentOver (Err NotBenchFile) plain (Some []) (Some []) (Some (codes "file 11\n")) × (SentOver (Err NotBenchFile) plain (Some []) (Some []) (Some []) → ⊥)
unfolding digits
over_none = (refl, λ s. apart (λ l. eqb (length l) 0) [] (codes "file 11\n") refl refl s)

abbrev number_in : Result (List Call) ℕ → ℕ
number_in (Ok cs) = 0
number_in (Err n) = n

pub fault : FaultOf (Err 7) (NoCommand 7) × (FaultOf (Err 7) (NoCommand 8) → ⊥) × (FaultOf (Ok []) (NoCommand 7) → ⊥)
fault = (
  refl,
  λ e. apart (λ r. eqb (number_in r) 7) _ _ refl refl e,
  λ e. apart (λ r. eqb (number_in r) 0) _ _ refl refl e,
)

too_large : PcFits at_two_to_32 → ⊥
too_large p = let l : 4294967296 < 4294967296 = p.fits in omega arith

pub fits : PcFits (fresh_of empty) × (PcFits at_two_to_32 → ⊥)
fits = (record { fits = omega arith }, too_large)
