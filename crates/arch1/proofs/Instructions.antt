-- The clocks of one instruction: how a loop makes them, and that they make one step of the machine.
use Rattle.std.proofs.Common.{◌≡◌, ℕ, zero, suc, ◌+◌, ◌-◌, ◌<◌, Bool, true, false, cond, Ok, Err, Result, sym, refl, ◌∙◌, subst, arith}
use Rattle.machine.specs.Machine.{Arch, Step, stepped}
use Rattle.memory.specs.declared.kind.Kind.{Kind}
use Rattle.processor.specs.Clocks.{Beat, on, retired, Clocked, Retires, Refuses}
use Rattle.arch1.proofs.Clocks.{every_clock}
use Rattle.arch1.proofs.Owed.{owes_registers, owes_pc, owes_idle}
use Rattle.arch1.specs.Clock.{beat_of, tick_answer, ticked_core, ticked_words}
use Rattle.arch1.specs.Owes.{clocks_of_class, Owes, idle, fetched, decoded, loading, branching}
use Rattle.arch1.specs.Refinement.{Rig, rig, machine_at, ticked, answer, ticks, StillOpen, answer_on, answer_for, rig_on, rig_for, RestsAt, Carries, Refines}
use Rattle.arch1.specs.Datapath.{Datapath}
use Rattle.arch1.specs.declared.phase.CoreFault.{CoreFault}
use Rattle.arch1.specs.declared.phase.Phase.{Phase}
use Rattle.arch1.specs.declared.phase.Phase.TheVariants.{T0}
use Rattle.arch1.specs.declared.phase.Ticked.{Ticked}

-- a clock by its contract
pub by_contract : (K K' : ℕ → Kind) → K' ≡ K → (s t : Rig) (r : Result Ticked CoreFault) →
    r ≡ tick_answer K' s.words s.core → t.core ≡ ticked_core K' s.words s.core → t.words ≡ ticked_words K' s.words s.core →
    (answer K s ≡ r) × (t ≡ ticked K s)
by_contract K K' same s t r told came held =
    subst (λ (L : ℕ → Kind). (answer L s ≡ r) × (t ≡ ticked L s)) same (sym told, λ i. record { core = came i; words = held i })

-- the loop: a clock by its contract, from s to t with the answer r, and then what is left of four
module _ (K K' : ℕ → Kind) (same : K' ≡ K) (s t : Rig) (r : Result Ticked CoreFault) (done : ℕ) (few : done < 4)
    (told : r ≡ tick_answer K' s.words s.core) (came : t.core ≡ ticked_core K' s.words s.core) (held : t.words ≡ ticked_words K' s.words s.core) where
  here : (answer K s ≡ r) × (t ≡ ticked K s)
  here = by_contract K K' same s t r told came held

  one_more : 4 - done ≡ suc (4 - (done + 1))
  one_more = omega arith

  pub next_clock : (x : Ticked) → r ≡ Ok x → x.retired ≡ false →
      (answer_for K (4 - (done + 1)) (done + 1) t ≡ answer_for K (4 - done) done s) × (rig_for K (4 - (done + 1)) t ≡ rig_for K (4 - done) s)
  unfolding answer_for rig_for
  next_clock x e h = rw (one_more, here.0 ∙ e, h, here.1) (refl, refl)

  pub last_clock : (x : Ticked) → r ≡ Ok x → x.retired ≡ true →
      (Ok (done + 1) ≡ answer_for K (4 - done) done s) × (t ≡ rig_for K (4 - done) s)
  unfolding answer_for rig_for
  last_clock x e h = rw (one_more, here.0 ∙ e, h) (refl, here.1)

  pub refused_clock : (f : CoreFault) → r ≡ Err f →
      (Err f ≡ answer_for K (4 - done) done s) × (t ≡ rig_for K (4 - done) s)
  unfolding answer_for rig_for
  refused_clock f e = rw (one_more, here.0 ∙ e) (refl, here.1)

-- nothing is left
pub no_clock : (K : ℕ → Kind) (s : Rig) (done : ℕ) → done ≡ 4 → (Ok 4 ≡ answer_for K (4 - done) done s) × (s ≡ rig_for K (4 - done) s)
unfolding answer_for rig_for
no_clock K s done e = rw e (refl, refl)

-- no instruction is open after four clocks
few_clocks : (K : ℕ → Kind) (a : Arch) (g : ℕ) (c : Datapath) → Owes K a g c → g < 4
few_clocks K a g c (idle t i d r f) = omega arith
few_clocks K a g c (fetched i w r f e) = omega arith
few_clocks K a g c (decoded w d r f e) = omega arith
few_clocks K a g c (loading w v f l rd rs1 imm e y h) = omega arith
few_clocks K a g c (branching w d r cmp rs1 rs2 imm e y) = omega arith

-- a core that owes a with no clock gone rests there
rests : (K : ℕ → Kind) (a : Arch) (s : Rig) → Owes K a 0 s.core → s.words ≡ a.words → RestsAt K a s
rests K a s o w =
    let between = owes_idle K a s.core o in
    record { owes = o; phase = between; pc = owes_pc K a 0 s.core o between; registers = owes_registers K a 0 s.core o; words = w }

module _ (K : ℕ → Kind) (a : Arch) where
  -- a clock that retires, and one that is refused, against the step
  done_by : (g n : ℕ) (st : Step) (s : Rig) → n ≡ suc g → Retires (Owes K) clocks_of_class a st g s.core s.words → Carries K a st (Ok n) s
  done_by g n st s e r =
      subst (λ (z : Step). Carries K a z (Ok n) s) (sym r.step) (e ∙ r.clocks, rests K r.to s r.owes r.stored)

  refused_by : (st : Step) (f : CoreFault) (s : Rig) → Refuses (Owes K) clocks_of_class a st f.cause f.address s.core s.words → Carries K a st (Err f) s
  refused_by st f s r =
      subst (λ (z : Step). Carries K a z (Err f) s) (sym r.step) (refl, r.at, rests K a s r.owes r.kept)

  -- one clock, and what is left of the instruction after it
  by_answer : (g : ℕ) (r : Result Ticked CoreFault) (s : Rig) (later-answer : Result ℕ CoreFault) (later : Rig) →
      Clocked (Owes K) clocks_of_class a (stepped K a) g (beat_of r) s.core s.words →
      (Owes K a (suc g) s.core → s.words ≡ a.words → Carries K a (stepped K a) later-answer later) →
      Carries K a (stepped K a) (answer_on r (g + 1) later-answer) (rig_on r s later)
  by_answer g (Ok x) s later-answer later law go = by_flag x.retired law
    where
      by_flag : (b : Bool) → Clocked (Owes K) clocks_of_class a (stepped K a) g (cond b retired on) s.core s.words →
          Carries K a (stepped K a) (cond b (Ok (g + 1)) later-answer) (cond b s later)
      by_flag true law = done_by g (g + 1) (stepped K a) s (omega arith) law
      by_flag false law = go law.0 law.1
  by_answer g (Err f) s later-answer later law go = refused_by (stepped K a) f s law

  -- a clock of a core that owes a
  clocked : (g : ℕ) (s : Rig) → s.words ≡ a.words → Owes K a g s.core →
      Clocked (Owes K) clocks_of_class a (stepped K a) g (beat_of (answer K s)) (ticked K s).core (ticked K s).words
  clocked g s w o = rw w (every_clock K a g s.core o)

  finish : (k g : ℕ) (s : Rig) → g + k ≡ 4 → s.words ≡ a.words → Owes K a g s.core →
      Carries K a (stepped K a) (answer_for K k g s) (rig_for K k s)
  unfolding answer_for rig_for
  finish zero g s e w o = absurd (let f = few_clocks K a g s.core o in omega arith)
  finish (suc k) g s e w o =
      by_answer g (answer K s) (ticked K s) (answer_for K k (g + 1) (ticked K s)) (rig_for K k (ticked K s))
      (clocked g s w o)
      (λ o' w'. finish k (g + 1) (ticked K s) (omega arith) w' (subst (λ (n : ℕ). Owes K a n (ticked K s).core) (omega arith) o'))

  while_open : (k g : ℕ) (s : Rig) → s.words ≡ a.words → Owes K a g s.core → StillOpen K k s →
      Owes K a (g + k) (ticks K k s).core × ((ticks K k s).words ≡ a.words)
  while_open zero g s w o h = (subst (λ (n : ℕ). Owes K a n s.core) (omega arith) o, w)
  while_open (suc k) g s w o h =
      let told = subst (λ (b : Beat). Clocked (Owes K) clocks_of_class a (stepped K a) g b (ticked K s).core (ticked K s).words) h.0 (clocked g s w o) in
      let rest = while_open k (suc g) (ticked K s) told.1 told.0 h.1 in
      (subst (λ (n : ℕ). Owes K a n (ticks K k (ticked K s)).core) (omega arith) rest.0, rest.1)

  refines_from : (s : Rig) → s.words ≡ a.words → Owes K a 0 s.core → Refines K a s (answer_for K 4 0 s) (rig_for K 4 s)
  refines_from s w o = record {
    carries = finish 4 0 s refl w o;
    before = λ k h. let all = while_open k 0 s w o h in let now = subst (λ (n : ℕ). Owes K a n (ticks K k s).core) (omega arith) all.0 in (now, owes_registers K a k (ticks K k s).core now, all.1);
  }

-- a core in T0 is between instructions
starts : (K : ℕ → Kind) (c : Datapath) (W : ℕ → ℕ) → c.phase ≡ T0 → Owes K (machine_at c W) 0 c
starts K c W e =
    subst (λ (p : Phase). Owes K (machine_at c W) 0 (record { registers = c.registers; pc = c.pc; tr = c.tr; ir = c.ir; dr = c.dr; ar = c.ar; flg = c.flg; phase = p })) (sym e)
    (idle c.tr c.ir c.dr c.ar c.flg)

pub instruction_refines : (K : ℕ → Kind) (c : Datapath) (W : ℕ → ℕ) (r : Result ℕ CoreFault) (t : Rig) → r ≡ answer_for K 4 0 (rig c W) → t ≡ rig_for K 4 (rig c W) →
    c.phase ≡ T0 → Refines K (machine_at c W) (rig c W) r t
instruction_refines K c W r t p q e = rw (p, q) (refines_from K (machine_at c W) (rig c W) refl (starts K c W e))
