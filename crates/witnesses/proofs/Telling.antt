-- What is told of calls that were played.
use Rattle.std.proofs.Common.{◌≡◌, ℕ, Bool, true, false, eqb, List, [], ◌∷◌, ◌++◌, get_or, Ok, Err, refl}
use Rattle.std.specs.Fmt.{digits}
use Rattle.std.specs.Prelude.{codes}
use Rattle.bench.specs.Calls.{ran_for}
use Rattle.bench.specs.Law.{Start}
use Rattle.bench.specs.State.{State}
use Rattle.benchfile.specs.declared.refusals.Refusal.TheVariants.{NotBenchFile}
use Rattle.playback.proofs.Alike.{tells}
use Rattle.playback_lines.specs.Lines.{call_lines}
use Rattle.playback.specs.Plays.{Plays, Prints, image_span, bank_span}
use Rattle.playback.specs.States.{state_text}
use Rattle.playback.specs.Transcript.{Transcript}
use Rattle.playback.specs.Whole.{whole_text}
use Rattle.playback.specs.declared.states.Span.{Span}
use Rattle.script.specs.Looks.{with_looks}
use Rattle.session.proofs.Prefixes.{lawful, reached}
use Rattle.session.proofs.Steps.{replays}
use Rattle.session.specs.Lawful.{Lawful, fresh_of}
use Rattle.session.specs.Lists.{answers, played, standing}
use Rattle.session.specs.Replays.{Replays, closed}
use Rattle.session.specs.declared.call.Answer.{Answer}
use Rattle.session.specs.declared.call.Call.{Call}
use Rattle.session.specs.declared.call.Call.TheVariants as call
use Rattle.setup.specs.Files.{start_in}
use Rattle.witnesses.proofs.Apart.{apart}
use Rattle.witnesses.specs.Benches.{one}
use Rattle.witnesses.specs.Files.{file, no_bytes, plain}

-- any calls from any start have a transcript
module _ (s : Start) (image bank : Span) (cs : List Call) where
  watched : List Call
  watched = with_looks cs

  given : List Answer
  given = answers (fresh_of s) (with_looks cs)

  left : State
  left = closed (played (fresh_of s) (with_looks cs))

  alone : State
  alone = closed (ran_for (standing 0 (answers (fresh_of s) (with_looks cs))) (fresh_of s))

  law : Replays s s (with_looks cs) given (standing 0 given) left alone
  unfolding given left alone
  law =
      let l : Lawful s (with_looks cs) (answers (fresh_of s) (with_looks cs)) (played (fresh_of s) (with_looks cs)) = lawful s (with_looks cs) _ _ (fresh_of s) refl refl refl in
      replays s s (with_looks cs) _ _ _ _ (fresh_of s) _ _ l (reached s (with_looks cs) _ _ l) refl refl refl refl refl

  transcribed : (text : List ℕ) × Transcript s s s image bank cs text
  transcribed = (
    whole_text cs given (standing 0 given) (state_text image bank left (fresh_of s)) (state_text image bank alone (fresh_of s)),
    tells s s s image bank cs given (standing 0 given) left alone (fresh_of s) _ law refl refl,
  )

abbrev is_none : List ℕ → Bool
is_none [] = true
is_none (x ∷ xs) = false

none_behind : (xs ys : List ℕ) → [] ≡ xs ++ ys → [] ≡ ys
none_behind [] ys e = e
none_behind (x ∷ xs) ys e = absurd (apart is_none [] (x ∷ (xs ++ ys)) refl refl e)

-- and none is empty: how many instructions stand is told at least
not_nothing : (s : Start) (image bank : Span) (cs : List Call) → Transcript s s s image bank cs [] → ⊥
not_nothing s image bank cs t = apart is_none [] _ refl refl (none_behind (call_lines cs t.given) _ t.tells)

pub step_told : ((text : List ℕ) × Transcript one one one no_bytes no_bytes (call.Step ∷ []) text) × (Transcript one one one no_bytes no_bytes (call.Step ∷ []) [] → ⊥)
step_told = (transcribed one no_bytes no_bytes (call.Step ∷ []), not_nothing one no_bytes no_bytes (call.Step ∷ []))

pub file_played : ((text : List ℕ) × Plays plain file [] text) × (Plays plain file [] [] → ⊥)
unfolding Plays
file_played = (
  transcribed (start_in plain file) (image_span plain file) (bank_span plain) [],
  not_nothing (start_in plain file) (image_span plain file) (bank_span plain) [],
)

pub file_refused : Prints plain (Err NotBenchFile) (Ok []) (codes "file 11\n") × (Prints plain (Err NotBenchFile) (Ok []) [] → ⊥)
unfolding digits
file_refused = (refl, λ p. apart is_none [] (codes "file 11\n") refl refl p)

pub line_blamed : Prints plain (Ok file) (Err 7) (codes "line 7: what?\n") × (Prints plain (Ok file) (Err 8) (codes "line 7: what?\n") → ⊥)
unfolding digits
line_blamed = (refl, λ p. apart (λ l. eqb (get_or l 5 0) 55) _ _ refl refl p)
