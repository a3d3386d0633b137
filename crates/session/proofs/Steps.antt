-- Steps one after another, and what a list of calls comes to against them.
use Rattle.std.proofs.Common.{◌≡◌, ℕ, zero, suc, ◌+◌, ◌-◌, ◌*◌, ◌%◌, ◌^◌, Bool, true, false, cond, ltb, List, Some, None, Ok, Err, Result, sym, refl, ap, ◌∙◌, arith}
use Rattle.arch1.specs.Phases.{phase_number}
use Rattle.arch1.specs.declared.phase.CoreFault.{CoreFault}
use Rattle.arch1.specs.declared.phase.Phase.{Phase}
use Rattle.arch1.specs.declared.phase.Phase.TheVariants.{T0, T1, T2, T3}
use Rattle.bench.proofs.Keeps.{reached_stands}
use Rattle.bench.specs.Calls.{open_clocks, step_answer, stepped_state, ran_on, ran_for, closed_state}
use Rattle.bench.specs.Law.{Start, Stands, Reached, fresh, did_step, went_back}
use Rattle.bench.specs.State.{State}
use Rattle.bench.specs.declared.answers.Stepped.{Stepped}
use Rattle.machine.specs.Machine.{Arch, Step, went, cannot, stepped, Run, onward, onward_by, after}
use Rattle.memory.specs.declared.kind.Kind.{Kind}
use Rattle.session.specs.Lawful.{Lawful, fresh_of}
use Rattle.session.specs.Lists.{standing}
use Rattle.session.specs.Replays.{closed, sight_of, Replays}
use Rattle.session.specs.declared.call.Answer.{Answer}
use Rattle.session.specs.declared.call.Call.{Call}

-- dropping an open instruction leaves what stands
closed_by : (s : Start) (n : ℕ) (t : State) (b : Bool) → ltb 0 (open_clocks t) ≡ b → Reached s n t → Reached s n (cond b (closed_state t) t)
closed_by s n t true e h = let same : n - 0 ≡ n = omega arith in rw (← same) (rw e at (went_back n t h))
closed_by s n t false e h = h

pub closed_reached : (s : Start) (n : ℕ) (t : State) → Reached s n t → Reached s n (closed t)
closed_reached s n t h = closed_by s n t (ltb 0 (open_clocks t)) refl h

none_open_by : (t : State) (p : Phase) → t.core.phase ≡ p → (closed t).core.phase ≡ T0
none_open_by t T0 e = rw e refl
none_open_by t T1 e = rw e refl
none_open_by t T2 e = rw e refl
none_open_by t T3 e = rw e refl

pub none_open : (t : State) → (closed t).core.phase ≡ T0
none_open t = none_open_by t t.core.phase refl

-- one step more of the machine cannot be made after none
none_after : (K : ℕ → Kind) (a : Arch) (n k : ℕ) → after K a n ≡ None → after K a (n + k) ≡ None
none_after K a n zero e = let same : n + 0 ≡ n = omega arith in rw same e
none_after K a n (suc k) e = let same : n + suc k ≡ suc (n + k) = omega arith in rw (same, none_after K a n k e) refl

-- k steps straight from where n instructions stand, where the machine makes so many more
module _ (s : Start) (r : Run) where
  straight_by : (n k : ℕ) (t : State) (y : Result Stepped CoreFault) → step_answer t ≡ y → after s.kinds s.arch (n + suc k) ≡ Some r → Reached s n t →
      ((u : State) → Reached s (suc n) u → Reached s (suc n + k) (ran_for k u)) → Reached s (n + suc k) (ran_on y (stepped_state t) (ran_for k (stepped_state t)))
  straight_by n k t (Ok x) e there h go =
      let more : n + suc k ≡ suc n + k = omega arith in
      rw more (go (stepped_state t) (rw e at (did_step n t h)))
  straight_by n k t (Err f) e there h go = absurd (refused (stepped s.kinds stand.come.arch) refl)
    where
      stand : Stands s n t
      stand = reached_stands s n t h

      refused : (st : Step) → stepped s.kinds stand.come.arch ≡ st → ⊥
      refused (went b c) q = rw (e, q) at stand.next
      refused (cannot c) q =
          let none : after s.kinds s.arch (suc n) ≡ None = ap (onward s.kinds) stand.there ∙ ap (onward_by stand.come) q in
          let more : n + suc k ≡ suc n + k = omega arith in
          let never : None ≡ Some r = sym (none_after s.kinds s.arch (suc n) k none) ∙ rw more at there in
          cc

  straight_on : (k n : ℕ) (t : State) → after s.kinds s.arch (n + k) ≡ Some r → Reached s n t → Reached s (n + k) (ran_for k t)
  unfolding ran_for
  straight_on zero n t there h = let same : n + 0 ≡ n = omega arith in rw same h
  straight_on (suc k) n t there h =
      let more : n + suc k ≡ suc n + k = omega arith in
      straight_by n k t (step_answer t) refl there h (λ u v. straight_on k (suc n) u (rw more at there) v)

some_same : {r q : Run} → Some r ≡ Some q → r ≡ q
some_same e = cc

-- as many instructions from the same start show the same
agree : (s z : Start) (n : ℕ) (t u : State) → z.kinds ≡ s.kinds → z.arch ≡ s.arch → Stands s n t → Stands z n u → t.core.phase ≡ T0 → u.core.phase ≡ T0 → sight_of u ≡ sight_of t
agree s z n t u k a f g none nobody =
    let there : after s.kinds s.arch n ≡ Some g.come = rw (k, a) at g.there in
    let come : g.come ≡ f.come = some_same (sym there ∙ f.there) in
    let registers : u.core.registers ≡ t.core.registers = g.registers ∙ ap (λ (r : Run). r.arch.registers) come ∙ sym f.registers in
    let pc : u.core.pc ≡ t.core.pc = g.pc nobody ∙ ap (λ (r : Run). r.arch.pc) come ∙ sym (f.pc none) in
    let counted : (x : State) (r : Run) → x.core.phase ≡ T0 → x.clocks ≡ (3 * n + r.longs + open_clocks x) % 2 ^ 64 → x.clocks ≡ (3 * n + r.longs) % 2 ^ 64 =
    λ x r h e. e ∙ ap (λ (p : Phase). (3 * n + r.longs + phase_number p) % 2 ^ 64) h ∙ omega arith in
    let clocks : u.clocks ≡ t.clocks = counted u g.come nobody g.clocks ∙ ap (λ (r : Run). (3 * n + r.longs) % 2 ^ 64) come ∙ sym (counted t f.come none f.clocks) in
    let retired : u.retired ≡ t.retired = g.retired ∙ sym f.retired in
    let kinds : u.kinds ≡ t.kinds = g.kinds ∙ k ∙ sym f.kinds in
    let words : u.words ≡ t.words = g.words ∙ ap (λ (r : Run). r.arch.words) come ∙ sym f.words in
    λ i. record { registers = registers i; pc = pc i; clocks = clocks i; retired = retired i; kinds = kinds i; words = words i }

pub replays : (s z : Start) (cs : List Call) (given : List Answer) (n : ℕ) (left t w u v : State) → Lawful s cs given left → Reached s (standing 0 given) left → n ≡ standing 0 given →
    t ≡ closed left → w ≡ fresh_of z → u ≡ ran_for n w → v ≡ closed u → Replays s z cs given n t v
replays s z cs given n left t w u v law reach count close new ran also =
    let run : u ≡ ran_for n (fresh_of z) = ran ∙ ap (ran_for n) new in
    let here : Reached s n t = rw (close, count) (closed_reached s _ left reach) in
    let stand = reached_stands s n t here in
    let from : 0 + n ≡ n = omega arith in
    let came : z.kinds ≡ s.kinds → z.arch ≡ s.arch → Reached z n v =
    λ k a.
    let there : after z.kinds z.arch (0 + n) ≡ Some stand.come = rw (from, k, a) stand.there in
    let steps : Reached z n (ran_for n (fresh_of z)) = rw from at (straight_on z stand.come n 0 (fresh_of z) there fresh) in
    rw (also, run) (closed_reached z n _ steps) in
    record {
      left = left;
      lawful = law;
      counted = count;
      played = close;
      reached = here;
      straight = also ∙ ap closed run;
      follows = came;
      same = λ k a. agree s z n t v k a stand (reached_stands z n v (came k a)) (rw close (none_open left)) (rw also (none_open u));
    }
