-- A turn of the loop: a step, and then what is left.
use Rattle.std.proofs.Common.{◌≡◌, ℕ, suc, ◌+◌, ◌-◌, ◌<◌, List, ◌++◌, Some, None, Ok, Err, Option, Result, sym, ap, ◌∙◌, append_assoc, append-nil, arith}
use Rattle.arch1.specs.declared.phase.CoreFault.{CoreFault}
use Rattle.bench.specs.Calls.{step_answer, stepped_state, run_answer_on, ran_on, run_answer_for, ran_for}
use Rattle.bench.specs.State.{State}
use Rattle.bench.specs.declared.answers.Stepped.{Stepped}
use Rattle.bench.specs.declared.answers.Stop.{Stop}
use Rattle.bench.specs.declared.answers.Stop.TheVariants as stop
use Rattle.tracer.specs.Steps.{line_after, lines_for, lines_on, refusal_in}

-- what is left of n steps after some of them comes to what all come to: the answer, the state and the lines
pub record Left (n done : ℕ) (start s : State) (before text : List ℕ) : Type 0 where
  pub answer : run_answer_for done (n - done) s ≡ run_answer_for 0 n start
  pub state : ran_for (n - done) s ≡ ran_for n start
  pub lines : text ++ lines_for (n - done) s ≡ before ++ lines_for n start

-- all that a bench, its text and its answer come to
pub record Done (n : ℕ) (start s : State) (before text : List ℕ) (told : Option Stop) : Type 0 where
  pub refusal : told ≡ refusal_in (run_answer_for 0 n start)
  pub state : s ≡ ran_for n start
  pub lines : text ≡ before ++ lines_for n start

module _ (n done : ℕ) (start s : State) (before text : List ℕ) (left : Left n done start s before text) where
  -- no step is left
  pub no_step : done ≡ n → Done n start s before text None
  unfolding run_answer_for ran_for lines_for
  no_step all =
      let none : n - done ≡ 0 = omega (arith, all) in record {
        refusal = ap refusal_in (rw none at left.answer);
        state = rw none at left.state;
        lines = sym (append-nil text) ∙ (rw none at left.lines);
      }

  module _ (few : done < n) (t : State) (here : t ≡ stepped_state s) (more : List ℕ) where
    one_more : n - done ≡ suc (n - (done + 1))
    one_more = omega (arith, few)

    module _ (y : Result Stepped CoreFault) (answer : y ≡ step_answer s) (longer : more ≡ text ++ line_after y) where
      said : {z : Result Stepped CoreFault} → y ≡ z → z ≡ step_answer s
      said e = sym e ∙ answer

      line : {z : Result Stepped CoreFault} → y ≡ z → more ≡ text ++ line_after z
      line e = longer ∙ ap (λ (v : Result Stepped CoreFault). text ++ line_after v) e

      -- a step that was answered
      pub next_step : (x : Stepped) → y ≡ Ok x → Left n (done + 1) start t before more
      unfolding run_answer_for ran_for lines_for
      next_step x e =
          let k = n - (done + 1) in record {
            answer = ap (run_answer_for (done + 1) k) here ∙ ap (λ (v : Result Stepped CoreFault). run_answer_on done v (run_answer_for (done + 1) k (stepped_state s))) (said e) ∙ (rw one_more at left.answer);
            state = ap (ran_for k) here ∙ ap (λ (v : Result Stepped CoreFault). ran_on v (stepped_state s) (ran_for k (stepped_state s))) (said e) ∙ (rw one_more at left.state);
            lines = ap (λ (l : List ℕ). l ++ lines_for k t) (line e)
                ∙ append_assoc text (line_after (Ok x)) (lines_for k t)
                ∙ ap (λ (u : State). text ++ (line_after (Ok x) ++ lines_for k u)) here
                ∙ ap (λ (v : Result Stepped CoreFault). text ++ lines_on v (lines_for k (stepped_state s))) (said e)
                ∙ (rw one_more at left.lines);
          }

      -- a step that was refused
      pub refused_step : (f : CoreFault) → y ≡ Err f → (told : Stop) → told ≡ stop.Core f → Done n start t before more (Some told)
      unfolding run_answer_for ran_for lines_for
      refused_step f e told is =
          let k = n - (done + 1) in record {
            refusal = ap (λ (v : Stop). Some v) is
                ∙ ap (λ (v : Result Stepped CoreFault). refusal_in (run_answer_on done v (run_answer_for (done + 1) k (stepped_state s)))) (said e)
                ∙ ap refusal_in (rw one_more at left.answer);
            state = here ∙ ap (λ (v : Result Stepped CoreFault). ran_on v (stepped_state s) (ran_for k (stepped_state s))) (said e) ∙ (rw one_more at left.state);
            lines = line e ∙ ap (λ (v : Result Stepped CoreFault). text ++ lines_on v (lines_for k (stepped_state s))) (said e) ∙ (rw one_more at left.lines);
          }
