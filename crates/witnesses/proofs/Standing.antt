-- How many instructions stand, and what is shown of them.
use Rattle.std.proofs.Common.{◌≡◌, ◌∙◌, ℕ, Bool, false, eqb, Some, Option, Ok, Err, Result, refl, sym, ap}
use Rattle.arch1.specs.declared.phase.Phase.TheVariants.{T0}
use Rattle.bench.proofs.Keeps.{looked, reached_stands}
use Rattle.bench.specs.Calls.{step_answer_for, stepped_for, stepped_state}
use Rattle.bench.specs.Law.{Next, Reached, Shows, Stands, fresh, did_step}
use Rattle.bench.specs.declared.look.Look.TheVariants as look
use Rattle.bench.specs.declared.look.LookFault.{LookFault}
use Rattle.isa.specs.Decoding.{reading_of}
use Rattle.machine.specs.Causes.{number_of}
use Rattle.machine.specs.Machine.{Run, stepped, x}
use Rattle.machine.specs.declared.cause.Cause.TheVariants.{Memory, UnalignedPc}
use Rattle.memory.specs.Meaning.{refused}
use Rattle.memory.specs.declared.fault.Cause.TheVariants.{NoWord}
use Rattle.session.specs.Lawful.{fresh_of}
use Rattle.witnesses.proofs.Apart.{apart}
use Rattle.witnesses.specs.Benches.{empty, made_in, no_words, one}
use Rattle.witnesses.specs.Machines.{before}
use Rattle.witnesses.specs.Memories.{one_open}

abbrev is_zero : Result ℕ LookFault → Bool
is_zero (Ok n) = eqb n 0
is_zero (Err f) = false

abbrev is_six : Result ℕ LookFault → Bool
is_six (Ok n) = eqb n 6
is_six (Err f) = false

pub next_made : Next one_open before (stepped one_open before) (Ok (made_in 3)) × (Next one_open before (stepped one_open before) (Ok (made_in 4)) → ⊥)
unfolding reading_of
next_made = ((refl, refl, refl), λ n. apart (λ m. eqb m 4) 4 3 refl refl n.2)

pub next_refused : Next no_words empty.arch (stepped no_words empty.arch) (Err (record { phase = T0; address = 0; cause = Memory (refused NoWord 0) })) × (Next no_words empty.arch (stepped no_words empty.arch) (Err (record { phase = T0; address = 0; cause = UnalignedPc })) → ⊥) × (Next no_words empty.arch (stepped no_words empty.arch) (Ok (made_in 3)) → ⊥)
next_refused = ((refl, refl), λ n. apart (λ c. eqb (number_of c) 1) _ _ refl refl n.1, λ n. n)

not_one : Stands empty 1 (fresh_of empty) → ⊥
not_one s = apart (λ n. eqb n 0) 0 1 refl refl s.retired

not_none : Stands one 0 (stepped_state (fresh_of one)) → ⊥
unfolding reading_of step_answer_for stepped_for
not_none s = apart (λ n. eqb n 1) 1 0 refl refl s.retired

stepped_once : Reached one 1 (stepped_state (fresh_of one))
unfolding reading_of step_answer_for stepped_for
stepped_once = did_step 0 (fresh_of one) fresh

pub none : Stands empty 0 (fresh_of empty) × (Stands empty 1 (fresh_of empty) → ⊥)
none = (reached_stands empty 0 (fresh_of empty) fresh, not_one)

pub one_stands : Stands one 1 (stepped_state (fresh_of one)) × (Stands one 0 (stepped_state (fresh_of one)) → ⊥)
one_stands = (reached_stands one 1 (stepped_state (fresh_of one)) stepped_once, not_none)

pub none_reached : Reached empty 0 (fresh_of empty) × (Reached empty 1 (fresh_of empty) → ⊥)
none_reached = (fresh, λ r. not_one (reached_stands empty 1 (fresh_of empty) r))

pub one_reached : Reached one 1 (stepped_state (fresh_of one)) × (Reached one 0 (stepped_state (fresh_of one)) → ⊥)
one_reached = (stepped_once, λ r. not_none (reached_stands one 0 (stepped_state (fresh_of one)) r))

pub counter_shown : Shows look.Retired (Ok 1) (stepped_state (fresh_of one)) × (Shows look.Retired (Ok 0) (stepped_state (fresh_of one)) → ⊥)
unfolding Shows reading_of step_answer_for stepped_for
counter_shown = (looked look.Retired (Ok 1) _ refl, λ h. apart is_zero (Ok 0) (Ok 1) refl refl (h one 1 stepped_once).2)

-- what two looks at x1 show of the same run
same_number : (a b : Run) (o : Option Run) → o ≡ Some a → o ≡ Some b → x a.arch 1 ≡ x b.arch 1
same_number a b o h k = let same : a ≡ b = cc in ap (λ r. x r.arch 1) same

-- the instruction puts 5 into x1
pub register_shown : Shows (look.Register 1) (Ok 5) (stepped_state (fresh_of one)) × (Shows (look.Register 1) (Ok 6) (stepped_state (fresh_of one)) → ⊥)
unfolding Shows reading_of step_answer_for stepped_for
register_shown =
    let five = looked (look.Register 1) (Ok 5) (stepped_state (fresh_of one)) refl in (
      five,
      λ six. let a = five one 1 stepped_once in let b = six one 1 stepped_once in
          apart is_six (Ok 6) (Ok 5) refl refl (b.2 ∙ sym (ap (λ n. Ok n) (same_number a.0 b.0 _ a.1 b.1)) ∙ sym a.2),
    )
