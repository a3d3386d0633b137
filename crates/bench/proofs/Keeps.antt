-- Each call keeps the law, whatever calls came before it.
use Rattle.std.proofs.Common.{◌≡◌, ℕ, ◌/◌, ◌%◌, ◌<◌, ◌≤◌, true, cond, ltb, nat_lt, Ok, Err, Result, refl, sym, ap, ◌∙◌, subst, arith}
use Rattle.std.proofs.lemmas.Bool.Decides.{nat_tests}
use Rattle.arch1.proofs.Clocks.{phases_named}
use Rattle.arch1.specs.declared.phase.CoreFault.{CoreFault}
use Rattle.arch1.specs.declared.phase.Ticked.{Ticked}
use Rattle.memory.specs.Meaning.{read_of}
use Rattle.memory.specs.declared.fault.MemoryFault.{MemoryFault}
use Rattle.memory.specs.declared.interfaces.ReadMemory.{Ghosts}
use Rattle.registers.specs.Registers.{value_of}
use Rattle.registers.specs.declared.file.RegisterFile.{RegisterFile}
use Rattle.bench.proofs.Laws.{Lives, new_lives, tick_lives, step_lives, run_lives, back_lives, lives_stood, lives_stands, tick_comes, step_comes, run_comes, goes_back}
use Rattle.bench.proofs.Loops.{few_steps}
use Rattle.bench.specs.Calls.{new_state, tick_answer, ticked_core, ticked_by, ticked_state, step_answer, stepped_state, run_answer, run_answer_for, ran_for, ran_state, back_answer, back_state}
use Rattle.bench.specs.Law.{Start, Stands, tick_count, step_count, run_count, back_count, taken_back, Reached, fresh, ticked, did_step, did_run, went_back, Kept, TickKept, StepKept, RunKept, BackKept, BeginsOver, start_over, byte_loaded, ShownBy, Shows}
use Rattle.bench.specs.Looks.{lane_of, look_answer}
use Rattle.bench.specs.State.{State}
use Rattle.bench.specs.declared.answers.BackFault.{BackFault}
use Rattle.bench.specs.declared.answers.RunFault.{RunFault}
use Rattle.bench.specs.declared.answers.Stepped.{Stepped}
use Rattle.bench.specs.declared.answers.Stop.TheVariants as stop
use Rattle.bench.specs.declared.look.Look.{Look}
use Rattle.bench.specs.declared.look.Look.TheVariants as look
use Rattle.bench.specs.declared.look.LookFault.{LookFault}
use Rattle.bench.specs.declared.look.LookFault.TheVariants.{NoRegister}

reached_lives : (s : Start) (n : ℕ) (t : State) → Reached s n t → Lives s n t
reached_lives s n t fresh = new_lives s
reached_lives s n t (ticked m u h) = tick_lives s m u (reached_lives s m u h)
reached_lives s n t (did_step m u h) = step_lives s m u (reached_lives s m u h)
reached_lives s n t (did_run m k u h) = run_lives s m k u (reached_lives s m u h)
reached_lives s n t (went_back m u h) = back_lives s m u (reached_lives s m u h)

pub reached_stands : (s : Start) (n : ℕ) (t : State) → Reached s n t → Stands s n t
reached_stands s n t h = lives_stands s n t (reached_lives s n t h)

-- what a way back takes back has stood
pub reached_stood : (s : Start) (n : ℕ) (t : State) → Reached s n t → taken_back (back_answer t) ≤ n
reached_stood s n t h = lives_stood s n t (reached_lives s n t h)

-- a byte of a word is what LBU loads
byte_of : (address : ℕ) (r : Result ℕ MemoryFault) → lane_of (address % 4) r ≡ byte_loaded address r
byte_of address (Ok w) = refl
byte_of address (Err f) = refl

kept : (count : ℕ → ℕ) (t u : State) → ((s : Start) (n : ℕ) → Reached s n t → Reached s (count n) u) → Kept count t u
kept count t u h = record { reached = h; stands = λ s n r. reached_stands s (count n) u (h s n r) }

pub begins_over : {M : Type 0} (m : Ghosts M) (memory : M) (rs : RegisterFile) (p : ℕ) (t : State) → t ≡ new_state (m.kinds memory) (m.words memory) rs p →
    BeginsOver m memory rs p t
unfolding BeginsOver
begins_over m memory rs p t e =
    let here : Reached (start_over m memory rs p) 0 t = rw e fresh in
    record { reached = here; stands = reached_stands _ 0 t here }

-- a clock leaves the core that it leaves, whatever it answers
core_ticked : (t : State) (y : Result Ticked CoreFault) → (ticked_by t y).core ≡ ticked_core t
core_ticked t (Ok x) = refl
core_ticked t (Err f) = refl

pub tick_kept : (t u : State) (r : Result Ticked CoreFault) → r ≡ tick_answer t → u ≡ ticked_state t → TickKept r t u
unfolding TickKept
tick_kept t u r e f = (
  kept (λ n. tick_count n r) t u (λ s n h. rw (e, f) (ticked n t h)),
  rw (e, f, core_ticked t (tick_answer t)) (phases_named t.kinds t.words t.core),
  λ s n h. rw (e, f) (tick_comes s n t (reached_lives s n t h)),
)

pub step_kept : (t u : State) (r : Result Stepped CoreFault) → r ≡ step_answer t → u ≡ stepped_state t → StepKept r t u
unfolding StepKept
step_kept t u r e f = (
  kept (λ n. step_count n r) t u (λ s n h. rw (e, f) (did_step n t h)),
  λ s n h. rw (e, f) (step_comes s n t (reached_lives s n t h)),
)

pub run_kept : (m : ℕ) (t u : State) (r : Result ℕ RunFault) → r ≡ run_answer m t → u ≡ ran_state m t → RunKept m r t u
unfolding RunKept
run_kept m t u r e f = (
  kept (λ n. run_count n r) t u (λ s n h. rw (e, f) (did_run n m t h)),
  λ s n h. rw (e, f) (run_comes s n t (reached_lives s n t h) m),
)

-- a run that was refused before its first step
pub not_run_kept : (m : ℕ) (t : State) (r : Result ℕ RunFault) → 1000000 < m → r ≡ Err (record { done = 0; stop = stop.TooMany }) → RunKept m r t t
not_run_kept m t r many e =
    let over : ltb 1000000 m ≡ true = grind (arith, nat_tests, many) in
    run_kept m t t r (rw over e) (rw over refl)

-- a run of few enough steps
pub steps_kept : (m : ℕ) (t u : State) (r : Result ℕ RunFault) → m ≤ 1000000 → r ≡ run_answer_for 0 m t → u ≡ ran_for m t → RunKept m r t u
steps_kept m t u r few e f = let same = few_steps m t few in run_kept m t u r (e ∙ same.0) (f ∙ same.1)

pub back_kept : (t u : State) (r : Result ℕ BackFault) → r ≡ back_answer t → u ≡ back_state t → BackKept r t u
unfolding BackKept
back_kept t u r e f = (
  kept (λ n. back_count n r) t u (λ s n h. rw (e, f) (went_back n t h)),
  λ s n h. rw e (reached_stood s n t h),
  rw (e, f) (goes_back t),
)

-- what a look shows is the machine's, since what it is at is
shown : (s : Start) (n : ℕ) (t : State) (h : Stands s n t) (at : Look) → ShownBy s.kinds h.come n t at (look_answer at t)
shown s n t h (look.Register k) = ap (λ rs. cond (nat_lt 31 k) (Err NoRegister) (Ok (value_of rs k))) h.registers
shown s n t h (look.Byte address) =
    let k = address / 4 in
    byte_of address (read_of k (t.kinds k) (t.words k)) ∙ ap (λ K. byte_loaded address (read_of k (K k) (t.words k))) h.kinds ∙ ap (λ W. byte_loaded address (read_of k (s.kinds k) (W k))) h.words
shown s n t h look.Pc = λ between. ap (λ p. Ok p) (h.pc between)
shown s n t h look.Clocks = ap (λ c. Ok c) h.clocks
shown s n t h look.Retired = ap (λ r. Ok r) h.retired
shown s n t h look.Tr = tt
shown s n t h look.Ir = tt
shown s n t h look.Dr = tt
shown s n t h look.Ar = tt
shown s n t h look.Flg = tt
shown s n t h look.Phase = tt
shown s n t h look.Journal = refl

pub looked : (at : Look) (a : Result ℕ LookFault) (t : State) → a ≡ look_answer at t → Shows at a t
unfolding Shows
looked at a t e s n h =
    let stands = reached_stands s n t h in
    (stands.come, stands.there, subst (ShownBy s.kinds stands.come n t at) (sym e) (shown s n t stands at))
