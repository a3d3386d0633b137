-- What a core owes, and what it does not.
use Rattle.std.proofs.Common.{◌≡◌, ℕ, Bool, false, eqb, Ok, Result, refl}
use Rattle.arch1.proofs.Owed.{owes_pc}
use Rattle.arch1.specs.Datapath.{Datapath}
use Rattle.arch1.specs.Owes.{Owes, idle, fetched, decoded, loading, branching, within}
use Rattle.arch1.specs.Phases.{phase_number}
use Rattle.arch1.specs.Refinement.{RestsAt}
use Rattle.arch1.specs.declared.phase.Phase.TheVariants.{T2}
use Rattle.machine.specs.Machine.{Arch, fetched_word}
use Rattle.machine.specs.declared.cause.Cause.{Cause}
use Rattle.memory.specs.declared.kind.Kind.{Kind}
use Rattle.witnesses.proofs.Apart.{apart}
use Rattle.witnesses.specs.Machines.{word, before, behind, at, one_clock, rig_at}
use Rattle.witnesses.specs.Memories.{one_open}

-- the clocks are the phase
pub owed_phase : (K : ℕ → Kind) (a : Arch) (g : ℕ) (c : Datapath) → Owes K a g c → phase_number c.phase ≡ g
owed_phase K a g c (idle t i d r f) = refl
owed_phase K a g c (fetched i w r f e) = refl
owed_phase K a g c (decoded w d r f e) = refl
owed_phase K a g c (loading w v f l rd rs1 imm e y h) = refl
owed_phase K a g c (branching w d r cmp rs1 rs2 imm e y) = refl

-- with two clocks gone, IR has the word at PC
owed_word : (K : ℕ → Kind) (a : Arch) (g : ℕ) (c : Datapath) → Owes K a g c → g ≡ 2 → fetched_word K a ≡ Ok c.ir
owed_word K a g c (idle t i d r f) e = absurd (apart (λ n. eqb n 0) 0 2 refl refl e)
owed_word K a g c (fetched i w r f h) e = absurd (apart (λ n. eqb n 1) 1 2 refl refl e)
owed_word K a g c (decoded w d r f h) e = h
owed_word K a g c (loading w v f l rd rs1 imm h y k) e = absurd (apart (λ n. eqb n 3) 3 2 refl refl e)
owed_word K a g c (branching w d r cmp rs1 rs2 imm h y) e = absurd (apart (λ n. eqb n 3) 3 2 refl refl e)

abbrev is_word : Result ℕ Cause → Bool
is_word (Ok w) = eqb w 0x00500093
is_word _ = false

pub address : Owes one_open before 0 (at before) × (Owes one_open before 0 (at behind) → ⊥)
address = (idle 0 0 0 0 false, λ o. apart (λ n. eqb n 4) 4 0 refl refl (owes_pc one_open before 0 (at behind) o refl))

pub count : Owes one_open before 1 one_clock × (Owes one_open before 0 one_clock → ⊥)
count = (fetched 0 word 0 false refl, λ o. apart (λ n. eqb n 1) 1 0 refl refl (owed_phase one_open before 0 one_clock o))

pub read : Owes one_open before 2 (within before word 0 0 false T2) × (Owes one_open before 2 (within before 0 0 0 false T2) → ⊥)
read = (decoded word 0 0 false refl, λ o. apart is_word _ _ refl refl (owed_word one_open before 2 (within before 0 0 0 false T2) o refl))

pub rests_at : (a : Arch) → RestsAt one_open a (rig_at a)
rests_at a = record { owes = idle 0 0 0 0 false; phase = refl; pc = refl; registers = refl; words = refl }

pub resting : RestsAt one_open before (rig_at before) × (RestsAt one_open behind (rig_at before) → ⊥)
resting = (rests_at before, λ s. apart (λ n. eqb n 0) 0 4 refl refl s.pc)
