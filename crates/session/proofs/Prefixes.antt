-- One call more, and the law for every list of calls.
use Rattle.std.proofs.Common.{◌≡◌, ℕ, zero, suc, ◌+◌, ◌<◌, ◌≤◌, List, [], ◌∷◌, ◌++◌, length, get_or, take, drop, set, sym, refl, ap, ◌∙◌, arith}
use Rattle.std.proofs.lemmas.List.{take_more, take_more_set, drop-set-lt, drop-drop}
use Rattle.bench.proofs.Keeps.{reached_stands, reached_stood}
use Rattle.bench.specs.Law.{Start, Stands, Kept, Reached, fresh, ticked, did_step, did_run, went_back}
use Rattle.bench.specs.State.{State}
use Rattle.session.specs.Lawful.{Lawful, fresh_of}
use Rattle.session.specs.Lists.{answered, called, answers, played, counted, standing, taken, NeverShort}
use Rattle.session.specs.declared.call.Answer.{Answer}
use Rattle.session.specs.declared.call.Call.{Call}
use Rattle.session.specs.declared.call.Call.TheVariants as call

played_push : (t : State) (cs : List Call) (c : Call) → played t (cs ++ (c ∷ [])) ≡ called c (played t cs)
played_push t [] c = refl
played_push t (x ∷ cs) c = played_push (called x t) cs c

answers_push : (t : State) (cs : List Call) (c : Call) → answers t (cs ++ (c ∷ [])) ≡ answers t cs ++ (answered c (played t cs) ∷ [])
answers_push t [] c = refl
answers_push t (x ∷ cs) c = ap (λ (r : List Answer). answered x t ∷ r) (answers_push (called x t) cs c)

-- the first i calls, from t, came to u: their answers are in the first places, and the later ones are as they were
pub record Made (t : State) (cs : List Call) (was : List Answer) (i : ℕ) (u : State) (places : List Answer) : Type 0 where
  pub gave : take i places ≡ answers t (take i cs)
  pub later : drop i places ≡ drop i was
  pub left : u ≡ played t (take i cs)

-- and one call more
pub made_more : (t u v : State) (cs : List Call) (places was : List Answer) (i : ℕ) (d : Call) (x : Answer) → i < length cs → i < length places →
    x ≡ answered (get_or cs i d) u → v ≡ called (get_or cs i d) u → Made t cs was i u places → Made t cs was (i + 1) v (set places i x)
made_more t u v cs places was i d x h l told went made =
    let more = take_more cs i d h in
    record {
      gave = take_more_set places i x l ∙ rw (more, answers_push t (take i cs) (get_or cs i d), made.gave, told, made.left) refl;
      later = drop-set-lt (i + 1) places i x (omega arith) ∙ sym (drop-drop 1 i places) ∙ ap (drop 1) made.later ∙ drop-drop 1 i was;
      left = rw (more, played_push t (take i cs) (get_or cs i d), went, made.left) refl;
    }

-- the law, call by call
call_reached : (s : Start) (n : ℕ) (t : State) (c : Call) → Reached s n t → Reached s (counted n (answered c t)) (called c t)
call_reached s n t call.Tick h = ticked n t h
call_reached s n t call.Step h = did_step n t h
call_reached s n t (call.Run m) h = did_run n m t h
call_reached s n t call.Back h = went_back n t h
call_reached s n t (call.Look at) h = h

pub call_kept : (c : Call) (t u : State) (x : Answer) → x ≡ answered c t → u ≡ called c t → Kept (λ n. counted n x) t u
call_kept c t u x e f =
    let on : (s : Start) (n : ℕ) → Reached s n t → Reached s (counted n x) u = λ s n h. rw (e, f) (call_reached s n t c h) in
    record { reached = on; stands = λ s n h. reached_stands s _ _ (on s n h) }

all_reached : (s : Start) (n : ℕ) (t : State) (cs : List Call) → Reached s n t → Reached s (standing n (answers t cs)) (played t cs)
all_reached s n t [] h = h
all_reached s n t (c ∷ cs) h = all_reached s (counted n (answered c t)) (called c t) cs (call_reached s n t c h)

call_taken : (s : Start) (n : ℕ) (t : State) (c : Call) → Reached s n t → taken (answered c t) ≤ n
call_taken s n t call.Tick h = omega arith
call_taken s n t call.Step h = omega arith
call_taken s n t (call.Run m) h = omega arith
call_taken s n t call.Back h = reached_stood s n t h
call_taken s n t (call.Look at) h = omega arith

never_short : (s : Start) (n : ℕ) (t : State) (cs : List Call) → Reached s n t → NeverShort n (answers t cs)
never_short s n t [] h = tt
never_short s n t (c ∷ cs) h = (call_taken s n t c h, never_short s (counted n (answered c t)) (called c t) cs (call_reached s n t c h))

all_stand : (s : Start) (cs : List Call) → Stands s (standing 0 (answers (fresh_of s) cs)) (played (fresh_of s) cs)
all_stand s cs = reached_stands s _ _ (all_reached s 0 (fresh_of s) cs fresh)

answers_take : (k : ℕ) (t : State) (cs : List Call) → answers t (take k cs) ≡ take k (answers t cs)
answers_take zero t [] = refl
answers_take (suc k) t [] = refl
answers_take zero t (c ∷ cs) = refl
answers_take (suc k) t (c ∷ cs) = ap (λ (r : List Answer). answered c t ∷ r) (answers_take k (called c t) cs)

pub lawful : (s : Start) (cs : List Call) (given : List Answer) (t u : State) → u ≡ fresh_of s → given ≡ answers u cs → t ≡ played u cs → Lawful s cs given t
lawful s cs given t u new g l =
    let gave : given ≡ answers (fresh_of s) cs = rw new at g in
    let left : t ≡ played (fresh_of s) cs = rw new at l in
    record {
      gave = gave;
      left = left;
      enough = rw gave (never_short s 0 (fresh_of s) cs fresh);
      each = λ k. rw (gave, ← answers_take k (fresh_of s) cs) (all_stand s (take k cs));
      last = rw (gave, left) (all_stand s cs);
    }

pub reached : (s : Start) (cs : List Call) (given : List Answer) (t : State) → Lawful s cs given t → Reached s (standing 0 given) t
reached s cs given t law = rw (law.gave, law.left) (all_reached s 0 (fresh_of s) cs fresh)
