-- A step, a run and a way back keep what is sound, and what is sound stands.
use Rattle.std.proofs.Common.{◌≡◌, ℕ, zero, suc, ◌+◌, ◌-◌, ◌*◌, ◌%◌, ◌^◌, ◌<◌, ◌≤◌, Bool, true, false, cond, ltb, List, [], ◌∷◌, length, Some, Ok, Err, Result, sym, refl, ap, ◌∙◌, subst, arith}
use Rattle.std.proofs.lemmas.Bool.Decides.{nat_tests}
use Rattle.isa.specs.declared.mnemonic.Class.{Class}
use Rattle.isa.specs.declared.mnemonic.Class.TheVariants as class
use Rattle.alu.specs.Comparisons.{compared}
use Rattle.arch1.proofs.Owed.{owes_registers, owes_pc}
use Rattle.arch1.specs.Clock as core
use Rattle.arch1.specs.Datapath.{Datapath}
use Rattle.arch1.specs.Owes.{between, within, Owes, idle, fetched, decoded, loading, branching}
use Rattle.arch1.specs.Phases.{phase_number}
use Rattle.arch1.specs.declared.phase.CoreFault.{CoreFault}
use Rattle.arch1.specs.declared.phase.Phase.TheVariants.{T0, T1, T2, T3}
use Rattle.arch1.specs.declared.phase.Ticked.{Ticked}
use Rattle.journal.specs.Entries.{popped, remaining}
use Rattle.journal.specs.declared.entry.Entry.{Entry}
use Rattle.machine.specs.Machine.{Arch, went, cannot, stepped, fetched_word, wrap, x, Run, after, long}
use Rattle.memory.specs.declared.kind.Kind.{Kind}
use Rattle.bench.proofs.Sound.{Past, Sound, sound, sound_new, with_one, TickBy, TickOutcome, tick_law, owes_phase, phase_few}
use Rattle.bench.proofs.Undo.{Fit}
use Rattle.bench.specs.Calls.{down, open_clocks, new_state, tick_answer, ticked_state, entry, stepped_of, last_answer, step_answer_on, stepped_on, step_answer_for, stepped_for, step_answer, stepped_state}
use Rattle.bench.specs.Calls.{run_answer_on, ran_on, run_answer_for, ran_for, run_answer, ran_state, closed_state, took_back, took_answer, back_state, back_answer}
use Rattle.bench.specs.Law.{Start, Stands, Next, tick_count, step_count, run_count, back_count, taken_back, steps_done, depth, deeper, deeper_by, Advances, Ticks, Closes, Settles, Ends, GoesBack}
use Rattle.bench.specs.State.{State}
use Rattle.bench.specs.declared.answers.RunFault.{RunFault}
use Rattle.bench.specs.declared.answers.Stepped.{Stepped}
use Rattle.bench.specs.declared.answers.Stop.TheVariants as stop

-- what a step says of its instruction
abbrev pub Told : (ℕ → Kind) → Arch → Class → Stepped → Type 0
Told K a k x = (x.address ≡ a.pc) × (fetched_word K a ≡ Ok x.word) × (x.clocks ≡ 3 + long k)

-- what a step comes to, in the state u with d instructions in the journal before: it leaves no instruction open
abbrev pub StepOutcome : (s : Start) → ℕ → Run → ℕ → State → Result Stepped CoreFault → Type 0
StepOutcome s n r d u (Ok x) =
    (b : Arch) × (k : Class) × (stepped s.kinds r.arch ≡ went b k) × Told s.kinds r.arch k x × Sound s (suc n) (with_one r b k) u × (open_clocks u ≡ 0)
    × (depth u ≡ deeper d)
StepOutcome s n r d u (Err f) = (stepped s.kinds r.arch ≡ cannot f.cause) × (f.address ≡ r.arch.pc) × Sound s n r u × (open_clocks u ≡ 0) × (depth u ≡ d)

module _ (s : Start) (n : ℕ) (r : Run) where
  retired_by_lem : (t : State) → TickBy s n r t (ticked_state t) true → StepOutcome s n r (depth t) (ticked_state t) (Ok (stepped_of (entry t)))
  retired_by_lem t law = let undo = law.3 in (law.0, law.1, law.2, (undo.address, undo.word, undo.clocks), law.4, law.5, law.6)

  -- the last clock of four
  last_by : (t : State) (b : Bool) → 3 ≤ open_clocks t → TickBy s n r t (ticked_state t) b → StepOutcome s n r (depth t) (ticked_state t) (Ok (stepped_of (entry t)))
  last_by t true h law = retired_by_lem t law
  last_by t false h law = let few = phase_few (ticked_state t).core.phase in let more = law.1 in absurd (omega arith)

  last_law : (t : State) (y : Result Ticked CoreFault) → 3 ≤ open_clocks t → TickOutcome s n r t (ticked_state t) y → StepOutcome s n r (depth t) (ticked_state t) (last_answer t y)
  last_law t (Ok x) h law = last_by t x.retired h law
  last_law t (Err f) h law = law

  -- a clock, and then what is left of the step
  on_by : (t : State) (b : Bool) (k : ℕ) → TickBy s n r t (ticked_state t) b →
      ((u : State) → Sound s n r u → open_clocks u ≡ suc (open_clocks t) → StepOutcome s n r (depth u) (stepped_for k u) (step_answer_for k u)) →
      StepOutcome s n r (depth t) (cond b (ticked_state t) (stepped_for k (ticked_state t))) (cond b (Ok (stepped_of (entry t))) (step_answer_for k (ticked_state t)))
  on_by t true k law go = retired_by_lem t law
  on_by t false k law go = rw (← law.2) (go (ticked_state t) law.0 law.1)

  on_law : (t : State) (y : Result Ticked CoreFault) (k : ℕ) → TickOutcome s n r t (ticked_state t) y →
      ((u : State) → Sound s n r u → open_clocks u ≡ suc (open_clocks t) → StepOutcome s n r (depth u) (stepped_for k u) (step_answer_for k u)) →
      StepOutcome s n r (depth t) (stepped_on y (ticked_state t) (stepped_for k (ticked_state t))) (step_answer_on t y (step_answer_for k (ticked_state t)))
  on_law t (Ok x) k law go = on_by t x.retired k law go
  on_law t (Err f) k law go = law

  step_law_for : (k : ℕ) (t : State) → 3 ≤ open_clocks t + k → Sound s n r t → StepOutcome s n r (depth t) (stepped_for k t) (step_answer_for k t)
  unfolding step_answer_for stepped_for
  step_law_for zero t h o = last_law t (tick_answer t) (omega arith) (tick_law s n r t o)
  step_law_for (suc k) t h o = on_law t (tick_answer t) k (tick_law s n r t o) (λ u v e. step_law_for k u (omega arith) v)

  pub step_law : (t : State) → Sound s n r t → StepOutcome s n r (depth t) (stepped_state t) (step_answer t)
  step_law t o = step_law_for 3 t (omega arith) o

-- some run of the machine stands
abbrev pub Lives : Start → ℕ → State → Type 0
Lives s n t = (r : Run) × Sound s n r t

-- what a run of m steps from b comes to, in the state u
abbrev RunOutcome : Start → ℕ → ℕ → State → State → Result ℕ RunFault → Type 0
RunOutcome s n m b u y =
    (r : Run) × Sound s (run_count n y) r u × Ends m r.arch (stepped s.kinds r.arch) y b u × (depth u ≡ deeper_by (steps_done y) (depth b))

module _ (s : Start) (base m : ℕ) (b : State) (few : m ≤ 1000000) where
  run_on : (done k : ℕ) (r : Run) (t : State) (y : Result Stepped CoreFault) → done + suc k ≡ m → depth t ≡ deeper_by done (depth b) →
      StepOutcome s (base + done) r (depth t) (stepped_state t) y →
      ((u : State) (q : Run) → depth u ≡ deeper_by (done + 1) (depth b) → Settles (done + 1) b u → Sound s (base + (done + 1)) q u →
      RunOutcome s base m b (ran_for k u) (run_answer_for (done + 1) k u)) →
      RunOutcome s base m b (ran_on y (stepped_state t) (ran_for k (stepped_state t))) (run_answer_on done y (run_answer_for (done + 1) k (stepped_state t)))
  run_on done k r t (Ok x) all deep law go =
      let one : suc (base + done) ≡ base + (done + 1) = omega arith in
      let more : suc done ≡ done + 1 = omega arith in
      go (stepped_state t) (with_one r law.0 law.1) (law.6 ∙ ap deeper deep ∙ ap (λ (z : ℕ). deeper_by z (depth b)) more)
      (subst (λ (z : ℕ). Settles z b (stepped_state t)) more law.5) (rw one at law.4)
  run_on done k r t (Err f) all deep law go =
      let fewer : done < m = omega (arith, all) in
      (r, law.2, rw law.0 (few, fewer, law.1, refl, law.3), law.4 ∙ deep)

  run_law_for : (k done : ℕ) (r : Run) (t : State) → done + k ≡ m → depth t ≡ deeper_by done (depth b) → Settles done b t → Sound s (base + done) r t →
      RunOutcome s base m b (ran_for k t) (run_answer_for done k t)
  unfolding run_answer_for ran_for
  run_law_for zero done r t all deep rest o = let every : done ≡ m = omega (arith, all) in (r, o, (every, few, rest), deep)
  run_law_for (suc k) done r t all deep rest o =
      run_on done k r t (step_answer t) all deep (step_law s (base + done) r t o) (λ u q. run_law_for k (done + 1) q u (omega (arith, all)))

run_law_by : (s : Start) (n m : ℕ) (r : Run) (t : State) (b : Bool) → ltb 1000000 m ≡ b → Sound s n r t →
    RunOutcome s n m t (cond b t (ran_for m t)) (cond b (Err (record { done = 0; stop = stop.TooMany })) (run_answer_for 0 m t))
run_law_by s n m r t true e o =
    let same : n + 0 ≡ n = omega arith in
    let many : 1000000 < m = grind (arith, nat_tests, e) in
    (r, rw same o, (many, refl, refl), refl)
run_law_by s n m r t false e o =
    let same : n + 0 ≡ n = omega arith in
    let few : m ≤ 1000000 = grind (arith, nat_tests, e) in
    run_law_for s n m t few m 0 r t (omega arith) refl refl (rw same o)

run_law : (s : Start) (n m : ℕ) (t : State) → Lives s n t → RunOutcome s n m t (ran_state m t) (run_answer m t)
run_law s n m t o = run_law_by s n m o.0 t (ltb 1000000 m) refl o.1

pub run_lives : (s : Start) (n m : ℕ) (t : State) → Lives s n t → Lives s (run_count n (run_answer m t)) (ran_state m t)
run_lives s n m t o = let out = run_law s n m t o in (out.0, out.1)

-- back
down_mod : (x y d : ℕ) → x ≡ y + d → d ≤ 4 → down (x % 2 ^ 64) d ≡ y % 2 ^ 64
down_mod x y d e h = omega arith

pub long_few : (k : Class) → long k ≤ 1
long_few class.Comp = omega arith
long_few class.CompI = omega arith
long_few class.Lui = omega arith
long_few class.Auipc = omega arith
long_few class.Ld = omega arith
long_few class.St = omega arith
long_few class.Jal = omega arith
long_few class.Jalr = omega arith
long_few class.Br = omega arith

module _ (s : Start) (n : ℕ) (r : Run) (k q : ℕ) (there : after s.kinds s.arch n ≡ Some r) (ret : q ≡ n % 2 ^ 64) (fit : Fit r.arch.words) where
  -- none is open: the newest entry is taken back
  took : (j : List Entry) (t i d a : ℕ) (f : Bool) → k ≡ (3 * n + r.longs + 0) % 2 ^ 64 → Past s j n r →
      (let u : State = record { core = between r.arch t i d a f; journal = j; clocks = k; retired = q; kinds = s.kinds; words = r.arch.words } in
      Lives s (back_count n (took_answer (popped j))) (took_back u (popped j)))
  took [] t i d a f clk p = (r, sound _ [] k q 0 there (idle t i d a f) clk ret tt fit)
  took (e ∷ es) t i d a f clk p =
      let m = p.0 in let r' = p.1 in let c = p.2 in let undo = p.6 in
      let less : m ≡ n - 1 = omega (arith, p.3) in
      let few = long_few c in
      let cost = undo.clocks in
      let k' = down k e.clocks in
      let q' = down q 1 in
      let apart : 3 * n + r.longs + 0 ≡ 3 * m + r'.longs + 0 + e.clocks = omega (arith, p.3, p.7) in
      let clk' : k' ≡ (3 * m + r'.longs + 0) % 2 ^ 64 = ap (λ (z : ℕ). down z e.clocks) clk ∙ down_mod _ _ _ apart (omega arith) in
      let ret' : q' ≡ m % 2 ^ 64 = omega (arith, p.3) in
      let u : State = record { core = between r.arch t i d a f; journal = e ∷ es; clocks = k; retired = q; kinds = s.kinds; words = r.arch.words } in
      let v : State = record { core = between r'.arch 0 0 0 0 false; journal = es; clocks = k'; retired = q'; kinds = s.kinds; words = r'.arch.words } in
      let here : Sound s m r' v = sound _ es k' q' 0 p.4 (idle 0 0 0 0 false) clk' ret' p.8 p.5 in
      let same : v ≡ took_back u (Some e) =
      λ i'. record {
        core = record { registers = sym undo.registers i'; pc = sym undo.address i'; tr = 0; ir = 0; dr = 0; ar = 0; flg = false; phase = T0 };
        journal = es;
        clocks = k';
        retired = q';
        kinds = s.kinds;
        words = sym undo.words i';
      } in
      (r', rw (← less) (subst (Sound s m r') same here))

  -- one is open: it is dropped
  shut : (j : List Entry) (c : Datapath) (g : ℕ) → phase_number c.phase ≡ g → k ≡ (3 * n + r.longs + g) % 2 ^ 64 → Past s j n r →
      core.dropped c ≡ between r.arch 0 0 0 0 false →
      Lives s (n - 0) (closed_state (record { core = c; journal = j; clocks = k; retired = q; kinds = s.kinds; words = r.arch.words }))
  shut j c g h clk p e =
      let few = phase_few c.phase in
      let same : n - 0 ≡ n = omega arith in
      (r, rw (same, e) (sound _ j (down k (phase_number c.phase)) q 0 there (idle 0 0 0 0 false) (omega arith) ret p fit))

  back_by : (j : List Entry) (c : Datapath) (g : ℕ) → Owes s.kinds r.arch g c → k ≡ (3 * n + r.longs + g) % 2 ^ 64 → Past s j n r →
      (let u : State = record { core = c; journal = j; clocks = k; retired = q; kinds = s.kinds; words = r.arch.words } in
      Lives s (back_count n (back_answer u)) (back_state u))
  back_by j c g (idle t i d a f) clk p = took j t i d a f clk p
  back_by j c g (fetched i w a f e) clk p = shut j (within r.arch i w a f T1) 1 refl clk p refl
  back_by j c g (decoded w d a f e) clk p = shut j (within r.arch w d a f T2) 2 refl clk p refl
  back_by j c g (loading w v f l rd rs1 imm e y h) clk p = shut j (within r.arch w v (wrap (x r.arch rs1 + imm)) f T3) 3 refl clk p refl
  back_by j c g (branching w d a cmp rs1 rs2 imm e y) clk p = shut j (within r.arch w d a (compared cmp (x r.arch rs1) (x r.arch rs2)) T3) 3 refl clk p refl

back_law : (s : Start) (n : ℕ) (r : Run) (t : State) → Sound s n r t → Lives s (back_count n (back_answer t)) (back_state t)
back_law s n r t (sound c j k q g there owes clk ret past fit) = back_by s n r k q there ret fit j c g owes clk past

-- no more is taken back than stands
took_stood : (s : Start) (j : List Entry) (n : ℕ) (r : Run) → Past s j n r → taken_back (took_answer (popped j)) ≤ n
took_stood s [] n r p = omega arith
took_stood s (e ∷ es) n r p = omega (arith, p.3)

stood_by : (s : Start) (n : ℕ) (r : Run) (j : List Entry) (k q : ℕ) (c : Datapath) (g : ℕ) → Owes s.kinds r.arch g c → Past s j n r →
    taken_back (back_answer (record { core = c; journal = j; clocks = k; retired = q; kinds = s.kinds; words = r.arch.words })) ≤ n
stood_by s n r j k q c g (idle t i d a f) p = took_stood s j n r p
stood_by s n r j k q c g (fetched i w a f e) p = omega arith
stood_by s n r j k q c g (decoded w d a f e) p = omega arith
stood_by s n r j k q c g (loading w v f l rd rs1 imm e y h) p = omega arith
stood_by s n r j k q c g (branching w d a cmp rs1 rs2 imm e y) p = omega arith

stood : (s : Start) (n : ℕ) (r : Run) (t : State) → Sound s n r t → taken_back (back_answer t) ≤ n
stood s n r t (sound c j k q g there owes clk ret past fit) = stood_by s n r j k q c g owes past

pub lives_stood : (s : Start) (n : ℕ) (t : State) → Lives s n t → taken_back (back_answer t) ≤ n
lives_stood s n t o = stood s n o.0 t o.1

pub back_lives : (s : Start) (n : ℕ) (t : State) → Lives s n t → Lives s (back_count n (back_answer t)) (back_state t)
back_lives s n t o = back_law s n o.0 t o.1

-- tick and step
tick_count_lem : (s : Start) (n : ℕ) (r : Run) (t u : State) (b : Bool) → TickBy s n r t u b → Lives s (cond b (suc n) n) u
tick_count_lem s n r t u true law = (with_one r law.0 law.1, law.4)
tick_count_lem s n r t u false law = (r, law.0)

tick_lives_by : (s : Start) (n : ℕ) (r : Run) (t u : State) (y : Result Ticked CoreFault) → TickOutcome s n r t u y → Lives s (tick_count n y) u
tick_lives_by s n r t u (Ok x) law = tick_count_lem s n r t u x.retired law
tick_lives_by s n r t u (Err f) law = (r, law.2)

pub tick_lives : (s : Start) (n : ℕ) (t : State) → Lives s n t → Lives s (tick_count n (tick_answer t)) (ticked_state t)
tick_lives s n t o = tick_lives_by s n o.0 t (ticked_state t) (tick_answer t) (tick_law s n o.0 t o.1)

step_lives_by : (s : Start) (n : ℕ) (r : Run) (d : ℕ) (u : State) (y : Result Stepped CoreFault) → StepOutcome s n r d u y → Lives s (step_count n y) u
step_lives_by s n r d u (Ok x) law = (with_one r law.0 law.1, law.4)
step_lives_by s n r d u (Err f) law = (r, law.2)

pub step_lives : (s : Start) (n : ℕ) (t : State) → Lives s n t → Lives s (step_count n (step_answer t)) (stepped_state t)
step_lives s n t o = step_lives_by s n o.0 (depth t) (stepped_state t) (step_answer t) (step_law s n o.0 t o.1)

pub new_lives : (s : Start) → Lives s 0 (new_state s.kinds s.arch.words s.arch.registers s.arch.pc)
new_lives s = (_, sound_new s)

-- what is sound stands
next_by : (s : Start) (n : ℕ) (r : Run) (d : ℕ) (u : State) (y : Result Stepped CoreFault) → StepOutcome s n r d u y → Next s.kinds r.arch (stepped s.kinds r.arch) y
next_by s n r d u (Ok x) law = rw law.2 law.3
next_by s n r d u (Err f) law = rw law.0 (law.1, refl)

pub stands : (s : Start) (n : ℕ) (r : Run) (t : State) → Sound s n r t → Stands s n t
stands s n r t (sound c j k q g there owes clk ret past fit) =
    let same = owes_phase s.kinds r.arch g c owes in
    record {
      come = r;
      there = there;
      kinds = refl;
      registers = owes_registers s.kinds r.arch g c owes;
      words = refl;
      pc = owes_pc s.kinds r.arch g c owes;
      owed = subst (λ (h : ℕ). Owes s.kinds r.arch h c) (sym same) owes;
      clocks = clk ∙ ap (λ (h : ℕ). (3 * n + r.longs + h) % 2 ^ 64) (sym same);
      retired = ret;
      next = next_by s n r _ _ _ (step_law s n r _ (sound c j k q g there owes clk ret past fit));
    }

pub come_is : (s : Start) (n : ℕ) (r : Run) (t : State) (h : Sound s n r t) → (stands s n r t h).come ≡ r
unfolding stands
come_is s n r t (sound c j k q g there owes clk ret past fit) = refl

pub lives_stands : (s : Start) (n : ℕ) (t : State) → Lives s n t → Stands s n t
lives_stands s n t o = stands s n o.0 t o.1

-- what a call's answer says of where the machine is
came : (s : Start) (n : ℕ) (r : Run) (t : State) → Sound s n r t → after s.kinds s.arch n ≡ Some r
came s n r t (sound c j k q g there owes clk ret past fit) = there

advances : (s : Start) (n : ℕ) (r : Run) (t u : State) (b : Bool) → TickBy s n r t u b → Advances (stepped s.kinds r.arch) t u b
advances s n r t u true law =
    let undo = law.3 in
    let cost : suc (open_clocks t) ≡ 3 + long law.1 = omega (arith, undo.clocks) in
    rw law.2 (cost, law.5, law.6)
advances s n r t u false law = (law.1, law.2)

ticks : (s : Start) (n : ℕ) (r : Run) (t u : State) (y : Result Ticked CoreFault) → TickOutcome s n r t u y → Ticks r.arch (stepped s.kinds r.arch) y t u
ticks s n r t u (Ok x) law = advances s n r t u x.retired law
ticks s n r t u (Err f) law = rw law.0 (law.1, refl, law.3, law.4)

closes : (s : Start) (n : ℕ) (r : Run) (t u : State) (y : Result Stepped CoreFault) → StepOutcome s n r (depth t) u y → Closes y t u
closes s n r t u (Ok x) law = (law.5, law.6)
closes s n r t u (Err f) law = (law.3, law.4)

module _ (s : Start) (n : ℕ) (t : State) (o : Lives s n t) where
  pub tick_comes : (come : Run) × (after s.kinds s.arch n ≡ Some come) × Ticks come.arch (stepped s.kinds come.arch) (tick_answer t) t (ticked_state t)
  tick_comes = (o.0, came s n o.0 t o.1, ticks s n o.0 t (ticked_state t) (tick_answer t) (tick_law s n o.0 t o.1))

  pub step_comes : (come : Run) × (after s.kinds s.arch n ≡ Some come) × (Next s.kinds come.arch (stepped s.kinds come.arch) (step_answer t) × Closes (step_answer t) t (stepped_state t))
  step_comes =
      let law = step_law s n o.0 t o.1 in
      (o.0, came s n o.0 t o.1, (next_by s n o.0 _ _ _ law, closes s n o.0 t _ _ law))

  pub run_comes : (m : ℕ) →
      (come : Run)
      × (after s.kinds s.arch (run_count n (run_answer m t)) ≡ Some come)
      × (Ends m come.arch (stepped s.kinds come.arch) (run_answer m t) t (ran_state m t) × (depth (ran_state m t) ≡ deeper_by (steps_done (run_answer m t)) (depth t)))
  run_comes m = let out = run_law s n m t o in (out.0, came s _ out.0 _ out.1, (out.2, out.3))

-- what a way back answers, by whether an instruction is open and what the journal holds
goes_back_by : (t : State) (b : Bool) (j : List Entry) → ltb 0 (open_clocks t) ≡ b → t.journal ≡ j →
    GoesBack (cond b (Ok 0) (took_answer (popped j))) t (cond b (closed_state t) (took_back t (popped j)))
goes_back_by t true j e h = (rw e refl, refl, omega arith)
goes_back_by t false [] e h = let none : open_clocks t ≡ 0 = grind (arith, nat_tests, e) in (none, ap length h, refl)
goes_back_by t false (x ∷ xs) e h = let one_less : length (remaining t.journal) + 1 ≡ length t.journal = rw h (omega arith) in (rw e refl, refl, one_less)

pub goes_back : (t : State) → GoesBack (back_answer t) t (back_state t)
goes_back t = goes_back_by t (ltb 0 (open_clocks t)) t.journal refl refl
