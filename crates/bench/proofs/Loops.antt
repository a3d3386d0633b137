-- How the loops of a step and of a run make what their definitions say.
use Rattle.std.proofs.Common.{◌≡◌, ℕ, zero, suc, ◌+◌, ◌-◌, ◌<◌, ◌≤◌, Bool, true, false, cond, Some, None, Ok, Err, Option, Result, sym, refl, ap, ◌∙◌, subst, arith, rules}
use Rattle.std.specs.Result.{MatchResult, IsErrAnd}
use Rattle.std.proofs.lemmas.Result.{err_from_is_err_and}
use Rattle.actions.specs.Actions.{action_of_word}
use Rattle.actions.specs.declared.action.Action.{Action}
use Rattle.actions.specs.declared.action.Action.TheVariants.{Comp, CompI, Lui, Auipc, Ld, St, Jal, Jalr, Br}
use Rattle.arch1.specs.Clock as core
use Rattle.arch1.specs.Datapath.{Datapath}
use Rattle.arch1.specs.Phases.{phase_number}
use Rattle.arch1.specs.Transfers.{Outcome, goes, retires, refuses, fetches, loads, stores, executes, finishes, access_of, transfer_by}
use Rattle.arch1.specs.declared.phase.CoreFault.{CoreFault}
use Rattle.arch1.specs.declared.phase.Phase.{Phase}
use Rattle.arch1.specs.declared.phase.Phase.TheVariants.{T0, T1, T2, T3}
use Rattle.arch1.specs.declared.phase.Ticked.{Ticked}
use Rattle.journal.specs.declared.entry.Entry.{Entry}
use Rattle.machine.specs.Machine.{x, aligned}
use Rattle.machine.specs.declared.cause.Cause.TheVariants.{UnalignedPc, UnalignedAddress}
use Rattle.memory.specs.declared.fault.MemoryFault.{MemoryFault}
use Rattle.processor.specs.Accesses.{replied, word_in, written_in}
use Rattle.processor.specs.declared.access.Reply.{Reply}
use Rattle.bench.proofs.Sound.{phase_few}
use Rattle.bench.specs.Calls.{open_clocks, tick_answer, ticked_by, ticked_state, entry, advanced_by, advanced, stepped_of, step_answer_for, stepped_for}
use Rattle.bench.specs.Calls.{step_answer, stepped_state, run_answer_for, ran_for, run_answer, ran_state}
use Rattle.bench.specs.State.{State}
use Rattle.bench.specs.declared.answers.RunFault.{RunFault}
use Rattle.bench.specs.declared.answers.Stepped.{Stepped}
use Rattle.bench.specs.declared.answers.Stop.TheVariants as stop

-- a clock in phase n that retires nothing and is not refused leaves the next phase
abbrev Onward : ℕ → Outcome → Type 0
Onward n (goes d) = phase_number d.phase ≡ suc n
Onward n (retires d) = Unit {0}
Onward n (refuses e) = Unit {0}

module _ (c : Datapath) (r : Reply) where
  fetching : (R : Result ℕ MemoryFault) → Onward 0 (fetches c R)
  fetching (Ok w) = refl
  fetching (Err f) = tt

  in_t0 : (b : Bool) → Onward 0 (cond b (fetches c (word_in r)) (refuses UnalignedPc))
  in_t0 true = fetching (word_in r)
  in_t0 false = tt

  loading : (address : ℕ) (R : Result ℕ MemoryFault) → Onward 2 (loads c address R)
  loading address (Ok w) = refl
  loading address (Err f) = tt

  storing : (address : ℕ) (R : Result (Unit {0}) MemoryFault) → Onward 2 (stores c address R)
  storing address (Ok u) = tt
  storing address (Err f) = tt

  load_by : (address : ℕ) (b : Bool) → Onward 2 (cond b (loads c address (word_in r)) (refuses UnalignedAddress))
  load_by address true = loading address (word_in r)
  load_by address false = tt

  store_by : (address : ℕ) (b : Bool) → Onward 2 (cond b (stores c address (written_in r)) (refuses UnalignedAddress))
  store_by address true = storing address (written_in r)
  store_by address false = tt

  in_t2 : (y : Option Action) → Onward 2 (executes c r y)
  in_t2 None = tt
  in_t2 (Some (Comp op rd rs1 rs2)) = tt
  in_t2 (Some (CompI op rd rs1 imm)) = tt
  in_t2 (Some (Lui rd imm)) = tt
  in_t2 (Some (Auipc rd imm)) = tt
  in_t2 (Some (Ld l rd rs1 imm)) = load_by _ _
  in_t2 (Some (St s rs1 rs2 imm)) = store_by _ _
  in_t2 (Some (Jal rd imm)) = tt
  in_t2 (Some (Jalr rd rs1 imm)) = tt
  in_t2 (Some (Br cmp rs1 rs2 imm)) = refl

  in_t3 : (y : Option Action) → Onward 3 (finishes c y)
  in_t3 None = tt
  in_t3 (Some (Comp op rd rs1 rs2)) = tt
  in_t3 (Some (CompI op rd rs1 imm)) = tt
  in_t3 (Some (Lui rd imm)) = tt
  in_t3 (Some (Auipc rd imm)) = tt
  in_t3 (Some (Ld l rd rs1 imm)) = tt
  in_t3 (Some (St s rs1 rs2 imm)) = tt
  in_t3 (Some (Jal rd imm)) = tt
  in_t3 (Some (Jalr rd rs1 imm)) = tt
  in_t3 (Some (Br cmp rs1 rs2 imm)) = tt

  onward : (p : Phase) → Onward (phase_number p) (transfer_by c r p)
  onward T0 = in_t0 (aligned c.pc 4)
  onward T1 = refl
  onward T2 = in_t2 (action_of_word c.ir)
  onward T3 = in_t3 (action_of_word c.ir)

-- what a clock of c that comes to o leaves
settled_more : (n : ℕ) (c : Datapath) (o : Outcome) (t : Ticked) → Onward n o → core.answered c o ≡ Ok t → t.retired ≡ false → phase_number (core.settled c o).phase ≡ suc n
settled_more n c (goes d) t go h e = go
settled_more n c (retires d) t go h e = cc
settled_more n c (refuses f) t go h e = cc

ticked_leaves : (s : State) (y : Result Ticked CoreFault) → (ticked_by s y).core ≡ core.ticked_core s.kinds s.words s.core
ticked_leaves s (Ok t) = refl
ticked_leaves s (Err f) = refl

more_clocks : (s : State) (t : Ticked) → tick_answer s ≡ Ok t → t.retired ≡ false → open_clocks (ticked_state s) ≡ suc (open_clocks s)
more_clocks s t h e =
    ap (λ (d : Datapath). phase_number d.phase) (ticked_leaves s (tick_answer s)) ∙ settled_more (open_clocks s) s.core _ t (onward s.core (replied s.kinds s.words (access_of s.core)) s.core.phase) h e

-- what a clock answered, by the instruction that it retired
told_ok : (s : State) (y : Result Ticked CoreFault) (o : Option Entry) → advanced_by s y ≡ Ok o → (t : Ticked) × (y ≡ Ok t) × (o ≡ cond t.retired (Some (entry s)) None)
told_ok s (Ok t) o h = (t, refl, cc)
told_ok s (Err f) o h = cc

told_err : (s : State) (y : Result Ticked CoreFault) (f : CoreFault) → advanced_by s y ≡ Err f → y ≡ Err f
told_err s (Ok t) f h = cc
told_err s (Err g) f h = cc

flag_of : (s : State) (b : Bool) (e : Entry) → Some e ≡ cond b (Some (entry s)) None → (b ≡ true) × (e ≡ entry s)
flag_of s true e h = (refl, cc)
flag_of s false e h = cc

no_flag : (s : State) (b : Bool) → None ≡ cond b (Some (entry s)) None → b ≡ false
no_flag s true h = cc
no_flag s false h = refl

-- a step from s, with so many clocks at most after the next, comes to what a step from `start` does
pub record Left (start s : State) : Type 0 where
  pub more : ℕ
  pub enough : 3 ≤ open_clocks s + more
  pub answer : step_answer_for more s ≡ step_answer start
  pub state : stepped_for more s ≡ stepped_state start

pub all_left : (start : State) → Left start start
all_left start = record { more = 3; enough = omega arith; answer = refl; state = refl }

-- the clock from s to t
module _ (start s t : State) (here : t ≡ ticked_state s) where
  refused_by : (k : ℕ) (f : CoreFault) → tick_answer s ≡ Err f → (Err f ≡ step_answer_for k s) × (t ≡ stepped_for k s)
  unfolding step_answer_for stepped_for
  refused_by zero f e = (rw e refl, here)
  refused_by (suc k) f e = (rw e refl, rw e (rw e at here))

  retired_by : (k : ℕ) (x : Ticked) → tick_answer s ≡ Ok x → x.retired ≡ true → (Ok (stepped_of (entry s)) ≡ step_answer_for k s) × (t ≡ stepped_for k s)
  unfolding step_answer_for stepped_for
  retired_by zero x e h = (rw e refl, here)
  retired_by (suc k) x e h = (rw (e, h) refl, rw (e, h) (rw (e, h) at here))

  open_by : (k : ℕ) (x : Ticked) → tick_answer s ≡ Ok x → x.retired ≡ false → 3 ≤ open_clocks s + k → step_answer_for k s ≡ step_answer start → stepped_for k s ≡ stepped_state start → open_clocks t ≡ suc (open_clocks s) → Left start t
  unfolding step_answer_for stepped_for
  open_by zero x e h few a u next = let last = phase_few t.core.phase in absurd (omega arith)
  open_by (suc k) x e h few a u next = record {
    more = k;
    enough = omega arith;
    answer = ap (step_answer_for k) (rw (e, h) at here) ∙ rw (e, h) at a;
    state = ap (stepped_for k) (rw (e, h) at here) ∙ rw (e, h) at u;
  }

  pub clock_refused : (f : CoreFault) → advanced s ≡ Err f → Left start s → (Err f ≡ step_answer start) × (t ≡ stepped_state start)
  clock_refused f h left = let all = refused_by left.more f (told_err s (tick_answer s) f h) in (all.0 ∙ left.answer, all.1 ∙ left.state)

  pub clock_retired : (e : Entry) → advanced s ≡ Ok (Some e) → Left start s → (Ok (stepped_of e) ≡ step_answer start) × (t ≡ stepped_state start)
  clock_retired e h left =
      let told = told_ok s (tick_answer s) (Some e) h in
      let was = flag_of s told.0.retired e told.2 in
      let all = retired_by left.more told.0 told.1 was.0 in
      (ap (λ (z : Entry). Ok (stepped_of z)) was.1 ∙ all.0 ∙ left.answer, all.1 ∙ left.state)

  pub clock_open : advanced s ≡ Ok None → Left start s → Left start t × (open_clocks t ≡ suc (open_clocks s))
  clock_open h left =
      let told = told_ok s (tick_answer s) None h in
      let on = no_flag s told.0.retired told.2 in
      let next = ap open_clocks here ∙ more_clocks s told.0 told.1 on in
      (open_by left.more told.0 told.1 on left.enough left.answer left.state next, next)

-- a run with `done` steps behind it, and the step from s to t
module _ (s t : State) (done n : ℕ) (few : done < n) (here : t ≡ stepped_state s) where
  one_more : n - done ≡ suc (n - (done + 1))
  one_more = omega arith

  pub next_step : (x : Stepped) → step_answer s ≡ Ok x →
      (run_answer_for (done + 1) (n - (done + 1)) t ≡ run_answer_for done (n - done) s) × (ran_for (n - (done + 1)) t ≡ ran_for (n - done) s)
  unfolding run_answer_for ran_for
  next_step x e = (rw (one_more, e) (ap (run_answer_for (done + 1) (n - (done + 1))) here), rw (one_more, e) (ap (ran_for (n - (done + 1))) here))

  pub refused_step : (f : CoreFault) → step_answer s ≡ Err f →
      (Err (record { done = done; stop = stop.Core f }) ≡ run_answer_for done (n - done) s) × (t ≡ ran_for (n - done) s)
  unfolding run_answer_for ran_for
  refused_step f e = (rw (one_more, e) refl, rw (one_more, e) here)

-- no step is left
pub no_step : (done n : ℕ) (s : State) → done ≡ n → (Ok n ≡ run_answer_for done (n - done) s) × (s ≡ ran_for (n - done) s)
unfolding run_answer_for ran_for
no_step done n s e = let none : n - done ≡ 0 = omega arith in (rw none (ap (λ (k : ℕ). Ok k) (sym e)), rw none refl)

-- not too many steps for one run
pub few_steps : (n : ℕ) (s : State) → n ≤ 1000000 → (run_answer_for 0 n s ≡ run_answer n s) × (ran_for n s ≡ ran_state n s)
few_steps n s h = (search rules, search rules)

-- the refusal that a step had, by the refusal that a closure made of it
pub refusal_of : (y : Result Stepped CoreFault) (r : Result Stepped RunFault) (P : CoreFault → RunFault → Type 0) (z : RunFault) → r ≡ Err z →
    MatchResult y (λ x. r ≡ Ok x) (λ e. IsErrAnd r (P e)) → (f : CoreFault) × (y ≡ Err f) × P f z
refusal_of (Ok x) r P z h m = cc
refusal_of (Err f) r P z h m =
    let q = err_from_is_err_and r m in
    let same : q.0 ≡ z = cc in
    (f, refl, subst (P f) same q.2)
