-- Calls that keep the law, and answers with which they would not.
use Rattle.std.proofs.Common.{◌≡◌, ℕ, suc, ◌≤◌, true, false, eqb, Ok, Err, refl, sym, ◌∙◌, arith}
use Rattle.arch1.specs.declared.phase.Phase.TheVariants.{T0, T1}
use Rattle.bench.proofs.Keeps.{reached_stands, tick_kept, step_kept, run_kept, back_kept}
use Rattle.bench.specs.Calls.{step_answer_for, stepped_for, ran_for, tick_answer, ticked_state, step_answer, stepped_state, run_answer, ran_state, back_answer, back_state}
use Rattle.bench.specs.Law.{BackKept, BeginsOver, Kept, RunKept, StepKept, Stood, TickKept, fresh}
use Rattle.bench.specs.State.{State}
use Rattle.bench.specs.declared.answers.BackFault.TheVariants.{NothingToTakeBack}
use Rattle.isa.specs.Decoding.{reading_of}
use Rattle.memory.specs.declared.interfaces.ReadMemory.{Ghosts}
use Rattle.registers.specs.declared.file.RegisterFile.{RegisterFile}
use Rattle.session.specs.Lawful.{fresh_of}
use Rattle.witnesses.proofs.Apart.{apart}
use Rattle.witnesses.specs.Benches.{empty, made_in, one}

moved : Kept suc (fresh_of one) (stepped_state (fresh_of one))
unfolding reading_of step_answer_for StepKept
moved = (step_kept (fresh_of one) (stepped_state (fresh_of one)) (step_answer (fresh_of one)) refl refl).0

not_still : Kept (λ (n : ℕ). n) (fresh_of one) (stepped_state (fresh_of one)) → ⊥
unfolding reading_of stepped_for
not_still k = apart (λ n. eqb n 1) 1 0 refl refl (k.stands one 0 fresh).retired

pub count_moved : Kept suc (fresh_of one) (stepped_state (fresh_of one)) × (Kept (λ (n : ℕ). n) (fresh_of one) (stepped_state (fresh_of one)) → ⊥)
count_moved = (moved, not_still)

pub count_kept : Kept (λ (n : ℕ). n) (fresh_of one) (fresh_of one) × (Kept suc (fresh_of one) (fresh_of one) → ⊥)
count_kept = (
  record { reached = λ s n r. r; stands = λ s n r. reached_stands s n (fresh_of one) r },
  λ k. apart (λ n. eqb n 0) 0 1 refl refl (k.stands one 0 fresh).retired,
)

pub tick : TickKept (tick_answer (fresh_of one)) (fresh_of one) (ticked_state (fresh_of one)) × (TickKept (Ok (record { next = T1; retired = true })) (fresh_of one) (ticked_state (fresh_of one)) → ⊥) × (TickKept (Ok (record { next = T0; retired = false })) (fresh_of one) (fresh_of one) → ⊥)
unfolding TickKept
tick = (
  tick_kept (fresh_of one) (ticked_state (fresh_of one)) (tick_answer (fresh_of one)) refl refl,
  λ k. apart (λ n. eqb n 0) 0 1 refl refl (k.0.stands one 0 fresh).retired,
  λ k. apart (λ n. eqb n 0) 0 1 refl refl (k.2 one 0 fresh).2.0,
)

pub step : StepKept (step_answer (fresh_of empty)) (fresh_of empty) (stepped_state (fresh_of empty)) × (StepKept (Ok (made_in 3)) (fresh_of empty) (stepped_state (fresh_of empty)) → ⊥)
unfolding StepKept stepped_for
step = (
  step_kept (fresh_of empty) (stepped_state (fresh_of empty)) (step_answer (fresh_of empty)) refl refl,
  λ k. apart (λ n. eqb n 0) 0 1 refl refl (k.0.stands empty 0 fresh).retired,
)

pub run : RunKept 1 (run_answer 1 (fresh_of empty)) (fresh_of empty) (ran_state 1 (fresh_of empty)) × (RunKept 1 (Ok 1) (fresh_of empty) (ran_state 1 (fresh_of empty)) → ⊥) × (RunKept 1 (Ok 0) (fresh_of one) (fresh_of one) → ⊥)
unfolding RunKept ran_for step_answer_for stepped_for
run = (
  run_kept 1 (fresh_of empty) (ran_state 1 (fresh_of empty)) (run_answer 1 (fresh_of empty)) refl refl,
  λ k. apart (λ n. eqb n 0) 0 1 refl refl (k.0.stands empty 0 fresh).retired,
  λ k. apart (λ n. eqb n 0) 0 1 refl refl (k.1 one 0 fresh).2.0.0,
)

not_stood : Stood 1 (fresh_of empty) → ⊥
not_stood s = let l : 1 ≤ 0 = s empty 0 fresh in omega arith

pub nothing_to_take : Stood 0 (fresh_of empty) × (Stood 1 (fresh_of empty) → ⊥)
nothing_to_take = (λ s n r. omega arith, not_stood)

pub back : BackKept (back_answer (fresh_of empty)) (fresh_of empty) (back_state (fresh_of empty)) × (BackKept (Ok 1) (fresh_of empty) (back_state (fresh_of empty)) → ⊥) × (BackKept (Err NothingToTakeBack) (stepped_state (fresh_of one)) (stepped_state (fresh_of one)) → ⊥) × (BackKept (Ok 0) (ticked_state (fresh_of one)) (ticked_state (fresh_of one)) → ⊥)
unfolding BackKept reading_of stepped_for
back = (
  back_kept (fresh_of empty) (back_state (fresh_of empty)) (back_answer (fresh_of empty)) refl refl,
  λ k. not_stood k.1,
  λ k. apart (λ n. eqb n 0) 0 1 refl refl (sym k.2.1),
  λ k. apart (λ n. eqb n 0) 0 1 refl refl (sym k.2.1),
)

pub counted_begins : {M : Type 0} (m : Ghosts M) (memory : M) (rs : RegisterFile) (p : ℕ) (t : State) → t.retired ≡ 1 → BeginsOver m memory rs p t → ⊥
unfolding BeginsOver
counted_begins m memory rs p t e b = apart (λ n. eqb n 1) 1 0 refl refl (sym e ∙ b.stands.retired)
