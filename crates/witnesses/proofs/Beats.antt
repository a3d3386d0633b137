-- The clocks of one instruction.
use Rattle.std.proofs.Common.{ℕ, ◌≤◌, Bool, true, false, eqb, Ok, refl, sym, ap, ◌∙◌, arith}
use Rattle.isa.specs.Decoding.{reading_of}
use Rattle.isa.specs.declared.mnemonic.Class.{Class}
use Rattle.isa.specs.declared.mnemonic.Class.TheVariants.{CompI}
use Rattle.arch1.proofs.Clocks.{clock_keeps}
use Rattle.arch1.proofs.Owed.{owes_pc}
use Rattle.arch1.specs.Owes.{Owes, idle, fetched, clocks_of_class}
use Rattle.arch1.specs.Phases.{phase_number}
use Rattle.arch1.specs.Refinement.{Carries, Keeps, Refines, Rig, StillOpen}
use Rattle.arch1.specs.declared.phase.Phase.TheVariants.{T1, T2}
use Rattle.machine.specs.Machine.{Arch, Step, went, cannot, stepped}
use Rattle.machine.specs.Causes.{number_of}
use Rattle.machine.specs.declared.cause.Cause.TheVariants.{Memory, UnalignedPc}
use Rattle.memory.specs.Meaning.{refused}
use Rattle.memory.specs.declared.fault.Cause.TheVariants.{NoWord}
use Rattle.memory.specs.declared.kind.Kind.{Kind}
use Rattle.processor.specs.Clocks as beat
use Rattle.processor.specs.Clocks.{Beat, Clocked, Refuses, Retires, on}
use Rattle.witnesses.proofs.Apart.{apart}
use Rattle.witnesses.proofs.Owing.{owed_phase, rests_at}
use Rattle.witnesses.specs.Machines.{word, words, before, behind, at, one_clock, rig_at}
use Rattle.witnesses.specs.Memories.{one_open}

-- no instruction takes fewer than three clocks, or more than four
at_least : (k : Class) → 3 ≤ clocks_of_class k
at_least k = grind arith

at_most : (k : Class) → clocks_of_class k ≤ 4
at_most k = grind arith

-- where a step goes, and the number of its cause
abbrev pc_in : Step → ℕ
pc_in (went b k) = b.pc
pc_in (cannot c) = 0

abbrev cause_in : Step → ℕ
cause_in (went b k) = 0
cause_in (cannot c) = number_of c

abbrev is_on : Beat → Bool
is_on on = true
is_on _ = false

going : Clocked (Owes one_open) clocks_of_class before (stepped one_open before) 0 on one_clock words
going = (fetched 0 word 0 false refl, refl)

pub going_on : Clocked (Owes one_open) clocks_of_class before (stepped one_open before) 0 on one_clock words × (Clocked (Owes one_open) clocks_of_class before (stepped one_open before) 0 on (at before) words → ⊥)
going_on = (going, λ c. apart (λ n. eqb n 0) 0 1 refl refl (owed_phase one_open before 1 (at before) c.0))

too_early : (st : Step) (a : Arch) → Retires (Owes one_open) clocks_of_class before st 1 (at a) words → ⊥
too_early st a r = let least = at_least r.by in let clocks = r.clocks in omega arith

not_done : Retires (Owes one_open) clocks_of_class before (stepped one_open before) 2 (at before) words → ⊥
unfolding reading_of
not_done r = apart (λ n. eqb n 4) 4 0 refl refl (ap pc_in r.step ∙ sym (owes_pc one_open r.to 0 (at before) r.owes refl))

pub retiring : Retires (Owes one_open) clocks_of_class before (stepped one_open before) 2 (at behind) words × (Retires (Owes one_open) clocks_of_class before (stepped one_open before) 1 (at behind) words → ⊥) × (Retires (Owes one_open) clocks_of_class before (stepped one_open before) 2 (at before) words → ⊥)
unfolding reading_of
retiring = (record { to = behind; by = CompI; step = refl; owes = idle 0 0 0 0 false; stored = refl; clocks = refl }, too_early (stepped one_open before) behind, not_done)

pub refusing : Refuses (Owes one_open) clocks_of_class behind (stepped one_open behind) (Memory (refused NoWord 1)) 4 (at behind) words × (Refuses (Owes one_open) clocks_of_class behind (stepped one_open behind) UnalignedPc 4 (at behind) words → ⊥) × (Refuses (Owes one_open) clocks_of_class before (stepped one_open before) (Memory (refused NoWord 0)) 0 (at before) words → ⊥)
unfolding reading_of
refusing = (
  record { step = refl; at = refl; owes = idle 0 0 0 0 false; kept = refl },
  λ r. apart (λ s. eqb (cause_in s) 2) _ _ refl refl r.step,
  λ r. apart (λ s. eqb (cause_in s) 0) _ _ refl refl r.step,
)

retired_at_once : Keeps one_open words (at before) (Ok (record { next = T1; retired = true })) one_clock words → ⊥
unfolding Keeps
retired_at_once k = let r = k.0 before 0 refl (idle 0 0 0 0 false) in let least = at_least r.by in let clocks = r.clocks in omega arith

pub keeping : Keeps one_open words (at before) (Ok (record { next = T1; retired = false })) one_clock words × (Keeps one_open words (at before) (Ok (record { next = T1; retired = true })) one_clock words → ⊥) × (Keeps one_open words (at before) (Ok (record { next = T2; retired = false })) one_clock words → ⊥)
unfolding Keeps
keeping = (
  clock_keeps one_open words (at before) _ one_clock words refl refl refl,
  retired_at_once,
  λ k. apart (λ p. eqb (phase_number p) 2) T2 T1 refl refl k.1,
)

pub open_for : StillOpen one_open 2 (rig_at before) × (StillOpen one_open 3 (rig_at before) → ⊥)
unfolding reading_of
open_for = ((refl, (refl, tt)), λ o. apart is_on on beat.retired refl refl (sym o.1.1.0))

pub carrying : Carries one_open before (stepped one_open before) (Ok 3) (rig_at behind) × (Carries one_open before (stepped one_open before) (Ok 4) (rig_at behind) → ⊥) × (Carries one_open before (stepped one_open before) (Ok 3) (rig_at before) → ⊥)
unfolding reading_of
carrying = (
  (refl, rests_at behind),
  λ c. apart (λ n. eqb n 4) 4 3 refl refl c.0,
  λ c. apart (λ n. eqb n 0) 0 4 refl refl c.1.pc,
)

carried_in_five : (K : ℕ → Kind) (a : Arch) (st : Step) (t : Rig) → Carries K a st (Ok 5) t → ⊥
carried_in_five K a (went b k) t c = let most = at_most k in let clocks = c.0 in omega arith
carried_in_five K a (cannot e) t c = c

pub not_in_five : (K : ℕ → Kind) (a : Arch) (s t : Rig) → Refines K a s (Ok 5) t → ⊥
not_in_five K a s t r = carried_in_five K a (stepped K a) t r.carries
