-- A turn of the loop: a clock, and then what is left.
use Rattle.std.proofs.Common.{◌≡◌, ℕ, zero, suc, ◌+◌, ◌-◌, ◌<◌, ◌≤◌, Bool, true, false, ltb, List, ◌++◌, Ok, Err, Result, refl, sym, ap, ◌∙◌, subst, append_assoc, arith, le-ltb, lt-ltb}
use mir.Val.{bool_byte}
use Rattle.memory.specs.declared.kind.Kind.{Kind}
use Rattle.arch1.specs.Clock.{tick_answer, ticked_core, ticked_words}
use Rattle.arch1.specs.Refinement.{Rig, ticked, answer}
use Rattle.arch1.specs.declared.phase.CoreFault.{CoreFault}
use Rattle.arch1.specs.declared.phase.Ticked.{Ticked}
use Rattle.clock_table.specs.Lines.{bit_of, clock_of, counts_of, fault_of}
use Rattle.clock_table.specs.Shown.{shown_on, shown_from}

-- a flag that is counted
pub counted : (b : Bool) → bool_byte b ≡ bit_of b
counted true = refl
counted false = refl

pub at_most_one : (b : Bool) → bool_byte b ≤ 1
at_most_one true = omega arith
at_most_one false = omega arith

-- the text so far is `before`, and what is left makes the whole of it
module _ (K : ℕ → Kind) (most limit clocks instructions : ℕ) (s : Rig) (before whole : List ℕ)
    (so_far : before ++ shown_from K (most - clocks) limit clocks instructions s ≡ whole) where
  -- the text of a clock that may be made and answers r
  opened : clocks < most → instructions < limit → (r : Result Ticked CoreFault) → answer K s ≡ r →
      shown_from K (most - clocks) limit clocks instructions s
      ≡ shown_on r (clock_of s.core.phase (ticked K s).core) clocks instructions (λ n. shown_from K (most - (clocks + 1)) limit (clocks + 1) n (ticked K s))
  unfolding shown_from
  opened few under r e =
      let k = most - (clocks + 1) in
      let one : most - clocks ≡ suc k = omega arith in
      let go : ltb instructions limit ≡ true = lt-ltb _ _ under in
      rw (one, go) (ap (λ (y : Result Ticked CoreFault). shown_on y (clock_of s.core.phase (ticked K s).core) clocks instructions (λ n. shown_from K k limit (clocks + 1) n (ticked K s))) e)

  last : (after line : List ℕ) → after ≡ before ++ line → shown_from K (most - clocks) limit clocks instructions s ≡ line → after ≡ whole
  last after line e is = e ∙ ap (λ (x : List ℕ). before ++ x) (sym is) ∙ so_far

  -- no clock is left
  pub no_clock : (after : List ℕ) → clocks ≡ most → after ≡ before ++ counts_of most instructions → after ≡ whole
  unfolding shown_from
  no_clock after all e =
      let none : most - clocks ≡ zero = omega arith in
      last after _ e (rw none (ap (λ (n : ℕ). counts_of n instructions) all))

  -- no instruction is left
  pub no_instruction_lem : (after : List ℕ) → limit ≤ instructions → after ≡ before ++ counts_of clocks instructions → after ≡ whole
  unfolding shown_from
  no_instruction_lem after all e = last after _ e (by_left (most - clocks))
    where
      by_left : (k : ℕ) → shown_from K k limit clocks instructions s ≡ counts_of clocks instructions
      by_left zero = refl
      by_left (suc k) = let stop : ltb instructions limit ≡ false = le-ltb _ _ all in rw stop refl

  -- a clock by its contract
  module _ (K' : ℕ → Kind) (same : K' ≡ K) (r : Result Ticked CoreFault) (answered : r ≡ tick_answer K' s.words s.core)
      (few : clocks < most) (under : instructions < limit) (after : List ℕ) where
    answers : answer K s ≡ r
    answers = sym (subst (λ (L : ℕ → Kind). r ≡ tick_answer L s.words s.core) same answered)

    -- it was refused
    pub refused_clock : (f : CoreFault) → r ≡ Err f → after ≡ before ++ fault_of f clocks instructions → after ≡ whole
    refused_clock f is e = last after _ e (opened few under (Err f) (answers ∙ is))

    -- it was made
    pub next_clock : (t : Rig) → t.core ≡ ticked_core K' s.words s.core → t.words ≡ ticked_words K' s.words s.core →
        (x : Ticked) (n : ℕ) → r ≡ Ok x → n ≡ bool_byte x.retired → after ≡ before ++ clock_of s.core.phase t.core →
        after ++ shown_from K (most - (clocks + 1)) limit (clocks + 1) (instructions + n) t ≡ whole
    next_clock t core words x n is bit e =
        let here : t ≡ ticked K s = subst (λ (L : ℕ → Kind). t ≡ ticked L s) same (λ i. record { core = core i; words = words i }) in
        let rest : ℕ → Rig → List ℕ = λ m u. shown_from K (most - (clocks + 1)) limit (clocks + 1) m u in
        ap (λ (l : List ℕ). l ++ rest (instructions + n) t) e
        ∙ append_assoc before (clock_of s.core.phase t.core) (rest (instructions + n) t)
        ∙ ap (λ (u : Rig). before ++ (clock_of s.core.phase u.core ++ rest (instructions + n) u)) here
        ∙ ap (λ (m : ℕ). before ++ (clock_of s.core.phase (ticked K s).core ++ rest (instructions + m) (ticked K s))) (bit ∙ counted x.retired)
        ∙ ap (λ (l : List ℕ). before ++ l) (sym (opened few under (Ok x) (answers ∙ is)))
        ∙ so_far
