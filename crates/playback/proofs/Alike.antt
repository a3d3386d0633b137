-- From the same start, calls and as many steps alone are shown alike.
use Rattle.std.proofs.Common.{◌≡◌, ℕ, zero, suc, ◌+◌, ◌%◌, ◌^◌, List, [], ◌∷◌, ◌++◌, min, length, take, drop, sym, refl, ap, ◌∙◌, arith}
use Rattle.std.proofs.lemmas.List.{take_all}
use Rattle.arch1.specs.Clock.{idle}
use Rattle.bench.specs.Law.{Start}
use Rattle.bench.specs.State.{State}
use Rattle.bench.specs.declared.look.Look.TheVariants as look
use Rattle.playback.specs.States.{look_text, registers_text, changed_text, changed_in, state_text}
use Rattle.playback.specs.Transcript.{Transcript}
use Rattle.playback.specs.Whole.{whole_text}
use Rattle.playback.specs.declared.states.Span.{Span}
use Rattle.script.specs.Looks.{with_looks}
use Rattle.session.specs.Lawful.{fresh_of}
use Rattle.session.specs.Replays.{Replays, Sight, sight_of}
use Rattle.session.specs.declared.call.Answer.{Answer}
use Rattle.session.specs.declared.call.Call.{Call}

-- a bench that shows this, and nothing else
abbrev of_sight : Sight → State
of_sight w = record { core = idle w.registers w.pc; journal = []; clocks = w.clocks; retired = w.retired; kinds = w.kinds; words = w.words }

registers_seen : (k n : ℕ) (t : State) → registers_text k n t ≡ registers_text k n (of_sight (sight_of t))
registers_seen zero n t = refl
registers_seen (suc k) n t = ap (λ (x : List ℕ). look_text (look.Register n) t ++ x) (registers_seen k (n + 1) t)

changed_seen : (k address : ℕ) (t f : State) → changed_in k address t f ≡ changed_in k address (of_sight (sight_of t)) f
changed_seen zero address t f = refl
changed_seen (suc k) address t f = ap (λ (x : List ℕ). changed_text address t f ++ x) (changed_seen k ((address + 1) % 2 ^ 32) t f)

-- what is shown, by its pieces that are long
abbrev around : State → List ℕ → List ℕ → List ℕ → List ℕ
around t registers image bank = registers ++ (look_text look.Pc t ++ (look_text look.Clocks t ++ (look_text look.Retired t ++ (image ++ bank))))

pieces : (t : State) {r r' i i' b b' : List ℕ} → r ≡ r' → i ≡ i' → b ≡ b' → around t r i b ≡ around t r' i' b'
pieces t p q s = λ k. around t (p k) (q k) (s k)

seen : (image bank : Span) (t f : State) → state_text image bank t f ≡ state_text image bank (of_sight (sight_of t)) f
seen image bank t f =
    pieces t (registers_seen 32 0 t) (changed_seen image.length image.from t f) (changed_seen bank.length bank.from t f)

same : (image bank : Span) (t u f : State) → sight_of u ≡ sight_of t → state_text image bank u f ≡ state_text image bank t f
same image bank t u f e = seen image bank u f ∙ ap (λ (w : Sight). state_text image bank (of_sight w) f) e ∙ sym (seen image bank t f)

pub tells : (s z y : Start) (image bank : Span) (cs : List Call) (given : List Answer) (n : ℕ) (t u f : State) (text : List ℕ) → Replays s z (with_looks cs) given n t u →
    f ≡ fresh_of y → text ≡ whole_text cs given n (state_text image bank t f) (state_text image bank u f) → Transcript s z y image bank cs text
tells s z y image bank cs given n t u f text law new e = record {
  given = given;
  standing = n;
  played = t;
  straight = u;
  replays = law;
  tells = rw (← new) e;
  alike = λ k a. same image bank t u (fresh_of y) (law.same k a);
}

-- there are as many places as calls
pub every : (s z : Start) (cs watched : List Call) (made : ℕ) (places was given : List Answer) (n : ℕ) (t u : State) → watched ≡ with_looks cs → made ≡ min (length watched) (length was) →
    length was ≡ length watched → length places ≡ length was → given ≡ places → Replays s z (take made watched) (take made places) n t u → Replays s z (with_looks cs) given n t u
every s z cs watched made places was given n t u w m same_length kept is law =
    let calls : take made watched ≡ with_looks cs = take_all made watched (omega (arith, m, same_length)) ∙ w in
    let answers : take made places ≡ given = take_all made places (omega (arith, m, same_length, kept)) ∙ sym is in
    rw (calls, answers) at law

front : (ps xs : List Answer) → take (length ps) (ps ++ xs) ≡ ps
front [] [] = refl
front [] (x ∷ xs) = refl
front (p ∷ ps) xs = ap (λ (r : List Answer). p ∷ r) (front ps xs)

-- all the places of a vector were lent, and come back
pub lent_whole : (size : ℕ) (places was given : List Answer) → size ≡ length places → given ≡ take size (places ++ drop (length places) was) → given ≡ places
lent_whole size places was given e is = is ∙ ap (λ (n : ℕ). take n (places ++ drop (length places) was)) e ∙ front places _
