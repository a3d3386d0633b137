-- The steps of a new bench are those of the machine: their lines, and where they stop.
use Rattle.std.proofs.Common.{◌≡◌, ℕ, zero, suc, ◌+◌, ◌*◌, ◌/◌, ◌^◌, ◌<◌, ◌≤◌, Bool, true, false, cond, List, ◌++◌, Some, None, Ok, Err, Option, Result, refl, ap, ◌∙◌, subst, arith}
use Rattle.isa.specs.declared.mnemonic.Class.{Class}
use Rattle.alu.specs.Comparisons.{compared}
use Rattle.alu.specs.declared.loads.Load.{Load}
use Rattle.alu.specs.declared.stores.Store.{Store}
use Rattle.actions.specs.Actions.{action_of_word}
use Rattle.actions.specs.declared.action.Action.{Action}
use Rattle.actions.specs.declared.action.Action.TheVariants.{Comp, CompI, Lui, Auipc, Ld, St, Jal, Jalr, Br}
use Rattle.arch1.specs.Phases.{phase_number}
use Rattle.arch1.specs.declared.phase.CoreFault.{CoreFault}
use Rattle.arch1.specs.declared.phase.Phase.{Phase}
use Rattle.arch1.specs.declared.phase.Phase.TheVariants.{T0, T1, T2, T3}
use Rattle.machine.specs.Causes.{number_of}
use Rattle.machine.specs.Machine as machine
use Rattle.machine.specs.Machine.{Arch, Step, went, cannot, stepped, fetched_word, Run, after, long, wrap, x, following, carried, carried_word}
use Rattle.machine.specs.declared.cause.Cause.{Cause}
use Rattle.machine.specs.declared.cause.Cause.TheVariants.{UnalignedPc}
use Rattle.memory.specs.Meaning.{read_of}
use Rattle.memory.specs.declared.kind.Kind.{Kind}
use Rattle.memory.specs.declared.kind.Kind.TheVariants.{Absent, Fixed, Open}
use Rattle.bench.proofs.Laws.{StepOutcome, step_law, long_few, stands, come_is}
use Rattle.bench.proofs.Sound.{Sound, with_one}
use Rattle.bench.specs.Calls.{open_clocks, step_answer, stepped_state, run_answer_on, ran_on, run_answer_for, ran_for}
use Rattle.bench.specs.Law.{Start, depth}
use Rattle.bench.specs.State.{State}
use Rattle.bench.specs.declared.answers.Stepped.{Stepped}
use Rattle.trace_lines.specs.Lines.{step_of, stop_of}
use Rattle.tracer.specs.Steps as steps
use Rattle.tracer.specs.Steps.{lines_for, stop_after}
use Rattle.tracer.specs.Trace.{line_at, lines_on, lines_from, stop_on, stop_from}

-- PC has 32 bits
abbrev PcAfter : Step → Type 0
PcAfter (went b k) = b.pc < 2 ^ 32
PcAfter (cannot c) = Unit {0}

module _ (K : ℕ → Kind) (a : Arch) where
  pc_loads : (l : Load) (rd address : ℕ) (R : Result ℕ Cause) → PcAfter (machine.loads a l rd address R)
  pc_loads l rd address (Ok w) = omega arith
  pc_loads l rd address (Err c) = tt

  pc_stores : (s : Store) (address v : ℕ) (R : Result (Unit {0}) Cause) → PcAfter (machine.stores a s address v R)
  pc_stores s address v (Ok u) = omega arith
  pc_stores s address v (Err c) = tt

  pc_branch : (b : Bool) (imm : ℕ) → cond b (wrap (a.pc + imm)) (following a) < 2 ^ 32
  pc_branch true imm = omega arith
  pc_branch false imm = omega arith

  pc_carried : (y : Option Action) → PcAfter (carried K a y)
  pc_carried None = tt
  pc_carried (Some (Comp op rd rs1 rs2)) = omega arith
  pc_carried (Some (CompI op rd rs1 imm)) = omega arith
  pc_carried (Some (Lui rd imm)) = omega arith
  pc_carried (Some (Auipc rd imm)) = omega arith
  pc_carried (Some (Ld l rd rs1 imm)) = pc_loads l rd _ _
  pc_carried (Some (St s rs1 rs2 imm)) = pc_stores s _ _ _
  pc_carried (Some (Jal rd imm)) = omega arith
  pc_carried (Some (Jalr rd rs1 imm)) = omega arith
  pc_carried (Some (Br c rs1 rs2 imm)) = pc_branch (compared c (x a rs1) (x a rs2)) imm

  pc_word : (R : Result ℕ Cause) → PcAfter (carried_word K a R)
  pc_word (Ok w) = pc_carried (action_of_word w)
  pc_word (Err c) = tt

  pc_step : (b : Arch) (k : Class) → stepped K a ≡ went b k → b.pc < 2 ^ 32
  pc_step b k e = subst PcAfter e (pc_word (fetched_word K a))

  -- the word that is fetched is the one at PC
  word_by : (kind : Kind) (k v w : ℕ) → machine.caused (read_of k kind v) ≡ Ok w → w ≡ v
  word_by Absent k v w e = cc
  word_by Fixed k v w e = cc
  word_by Open k v w e = cc

  word_if : (b : Bool) (w : ℕ) → cond b (machine.word_at K a a.pc) (Err UnalignedPc) ≡ Ok w → w ≡ a.words (a.pc / 4)
  word_if true w e = word_by (K (a.pc / 4)) (a.pc / 4) (a.words (a.pc / 4)) w e
  word_if false w e = cc

  word_there : (w : ℕ) → fetched_word K a ≡ Ok w → w ≡ a.words (a.pc / 4)
  word_there w e = word_if (machine.aligned a.pc 4) w e

in_t0 : (p : Phase) → phase_number p ≡ 0 → p ≡ T0
in_t0 T0 e = refl
in_t0 T1 e = cc
in_t0 T2 e = cc
in_t0 T3 e = cc

line_same : {p q u v c d : ℕ} → p ≡ q → u ≡ v → c ≡ d → step_of p u c ≡ step_of q v d
line_same {p} {q} {u} {v} {c} {d} e f g = ap (λ (i : ℕ). step_of i u c) e ∙ ap (λ (i : ℕ). step_of q i c) f ∙ ap (λ (i : ℕ). step_of q v i) g

-- the bench in the state t is between instructions, n of which came to r
pub record At (s : Start) (n : ℕ) (r : Run) (t : State) : Type 0 where
  pub sound : Sound s n r t
  pub closed : open_clocks t ≡ 0
  pub longs : r.longs ≤ n
  pub pc : r.arch.pc < 2 ^ 32

module _ (s : Start) where
  -- what the bench shows there
  pub shown : (n : ℕ) (r : Run) (t : State) → At s n r t → n < 2 ^ 32 → (t.core.pc ≡ r.arch.pc) × (t.retired ≡ n) × (t.clocks ≡ 3 * n + r.longs)
  shown n r t o small =
      let all = stands s n r t o.sound in
      let come = come_is s n r t o.sound in
      let longs : all.come.longs ≡ r.longs = ap (λ (q : Run). q.longs) come in
      let ret = all.retired in let clk = all.clocks in let none = o.closed in let few = o.longs in (
        all.pc (in_t0 t.core.phase none) ∙ ap (λ (q : Run). q.arch.pc) come,
        omega (arith, ret, small),
        omega (arith, clk, longs, none, few, small),
      )

  step_there : (n : ℕ) (r : Run) (t : State) → At s n r t → StepOutcome s n r (depth t) (stepped_state t) (step_answer t)
  step_there n r t o = step_law s n r t o.sound

  -- after a step that was answered
  further : (n : ℕ) (r : Run) (t u : State) (y : Stepped) → At s n r t → (law : StepOutcome s n r (depth t) u (Ok y)) → At s (suc n) (with_one r law.0 law.1) u
  further n r t u y o law =
      let few = long_few law.1 in let before = o.longs in record {
        sound = law.4;
        closed = law.5;
        longs = omega (arith, few, before);
        pc = pc_step s.kinds r.arch law.0 law.1 law.2;
      }

  -- after one that was refused
  refused : (n : ℕ) (r : Run) (t u : State) (f : CoreFault) → At s n r t → StepOutcome s n r (depth t) u (Err f) → At s n r u
  refused n r t u f o law = record { sound = law.2; closed = law.3; longs = o.longs; pc = o.pc }

  -- the lines
  lines_by : (n m : ℕ) (r : Run) (t u : State) (y : Result Stepped CoreFault) → At s n r t → StepOutcome s n r (depth t) u y →
      ((q : Run) → At s (suc n) q u → lines_for m u ≡ lines_from s.kinds m q.arch) →
      steps.lines_on y (lines_for m u) ≡ lines_on r.arch (stepped s.kinds r.arch) (lines_from s.kinds m)
  lines_by n m r t u (Ok y) o law go =
      let told = law.3 in
      let line = line_same told.0 (word_there s.kinds r.arch y.word told.1) told.2 in
      let rest = go (with_one r law.0 law.1) (further n r t u y o law) in
      rw law.2 (ap (λ (l : List ℕ). l ++ lines_for m u) line ∙ ap (λ (l : List ℕ). line_at r.arch law.1 ++ l) rest)
  lines_by n m r t u (Err f) o law go = rw law.0 refl

  pub lines_are : (m n : ℕ) (r : Run) (t : State) → At s n r t → lines_for m t ≡ lines_from s.kinds m r.arch
  unfolding lines_for lines_from
  lines_are zero n r t o = refl
  lines_are (suc m) n r t o = lines_by n m r t (stepped_state t) (step_answer t) o (step_there n r t o) (λ q next. lines_are m (suc n) q (stepped_state t) next)

  -- the last line
  stop_there : (number n : ℕ) (r : Run) (t : State) → At s n r t → n < 2 ^ 32 → stop_of number t.core.pc t.retired t.clocks ≡ stop_of number r.arch.pc n (3 * n + r.longs)
  stop_there number n r t o small = let all = shown n r t o small in rw (all.0, all.1, all.2) refl

  stop_by : (n m clocks : ℕ) (r : Run) (t u : State) (y : Result Stepped CoreFault) → At s n r t → StepOutcome s n r (depth t) u y → clocks ≡ 3 * n + r.longs → n < 2 ^ 32 →
      ((q : Run) (more : ℕ) → At s (n + 1) q u → more ≡ 3 * (n + 1) + q.longs →
      stop_after (run_answer_for (n + 1) m u) (ran_for m u) ≡ stop_from s.kinds m (n + 1) more q.arch) →
      stop_after (run_answer_on n y (run_answer_for (n + 1) m u)) (ran_on y u (ran_for m u)) ≡ stop_on n clocks r.arch (stepped s.kinds r.arch) (stop_from s.kinds m)
  stop_by n m clocks r t u (Ok y) o law sum small go =
      let one : suc n ≡ n + 1 = omega arith in
      let q = with_one r law.0 law.1 in
      rw law.2 (go q (clocks + (3 + long law.1)) (subst (λ (k : ℕ). At s k q u) one (further n r t u y o law)) (omega (arith, sum)))
  stop_by n m clocks r t u (Err f) o law sum small go = rw (law.0, sum) (stop_there (number_of f.cause) n r u (refused n r t u f o law) small)

  pub stop_is : (m n clocks : ℕ) (r : Run) (t : State) → At s n r t → clocks ≡ 3 * n + r.longs → n + m < 2 ^ 32 →
      stop_after (run_answer_for n m t) (ran_for m t) ≡ stop_from s.kinds m n clocks r.arch
  unfolding run_answer_for ran_for stop_from
  stop_is zero n clocks r t o sum small = rw sum (stop_there 0 n r t o (omega (arith, small)))
  stop_is (suc m) n clocks r t o sum small =
      stop_by n m clocks r t (stepped_state t) (step_answer t) o (step_there n r t o) sum (omega (arith, small))
      (λ q more next e. stop_is m (n + 1) more q (stepped_state t) next e (omega (arith, small)))

  -- PC after a run
  pc_by : (n m : ℕ) (r : Run) (t u : State) (y : Result Stepped CoreFault) → At s n r t → StepOutcome s n r (depth t) u y → n < 2 ^ 32 →
      ((q : Run) → At s (suc n) q u → (ran_for m u).core.pc < 2 ^ 32) → (ran_on y u (ran_for m u)).core.pc < 2 ^ 32
  pc_by n m r t u (Ok y) o law small go = go _ (further n r t u y o law)
  pc_by n m r t u (Err f) o law small go = let at = shown n r u (refused n r t u f o law) small in let fits = o.pc in rw at.0 fits

  pub pc_after : (m n : ℕ) (r : Run) (t : State) → At s n r t → n + m < 2 ^ 32 → (ran_for m t).core.pc < 2 ^ 32
  unfolding ran_for
  pc_after zero n r t o small = let at = shown n r t o (omega (arith, small)) in let fits = o.pc in rw at.0 fits
  pc_after (suc m) n r t o small =
      pc_by n m r t (stepped_state t) (step_answer t) o (step_there n r t o) (omega (arith, small)) (λ q next. pc_after m (suc n) q (stepped_state t) next (omega (arith, small)))
