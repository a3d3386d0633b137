-- A list of calls against the instructions that stand after it, run straight.
use Rattle.std.specs.Prelude.{◌≡◌, ℕ, cond, List, nat_lt}
use Rattle.bench.specs.Calls.{open_clocks, closed_state, ran_for}
use Rattle.bench.specs.Law.{Start, Reached}
use Rattle.bench.specs.State.{State}
use Rattle.memory.specs.declared.kind.Kind.{Kind}
use Rattle.session.specs.Lawful.{Lawful, fresh_of}
use Rattle.session.specs.Lists.{standing}
use Rattle.session.specs.declared.call.Answer.{Answer}
use Rattle.session.specs.declared.call.Call.{Call}

-- an open instruction is dropped
abbrev pub closed : State → State
closed t = cond (nat_lt 0 (open_clocks t)) (closed_state t) t

-- what a bench shows between instructions: registers, PC, both counters, and the memory
pub record Sight : Type 0 where
  pub registers : List ℕ
  pub pc : ℕ
  pub clocks : ℕ
  pub retired : ℕ
  pub kinds : ℕ → Kind
  pub words : ℕ → ℕ

abbrev pub sight_of : State → Sight
sight_of t = record { registers = t.core.registers; pc = t.core.pc; clocks = t.clocks; retired = t.retired; kinds = t.kinds; words = t.words }

-- the calls cs on a new bench of s gave these answers, by which n instructions stand, and with the open one dropped it is in the state t;
-- n steps on a new bench of z left it in the state u. From the same start both show the same, and whoever goes on with either has the law.
pub record Replays (s z : Start) (cs : List Call) (given : List Answer) (n : ℕ) (t u : State) : Type 0 where
  pub left : State
  pub lawful : Lawful s cs given left
  pub counted : n ≡ standing 0 given
  pub played : t ≡ closed left
  pub reached : Reached s n t
  pub straight : u ≡ closed (ran_for n (fresh_of z))
  pub follows : z.kinds ≡ s.kinds → z.arch ≡ s.arch → Reached z n u
  pub same : z.kinds ≡ s.kinds → z.arch ≡ s.arch → sight_of u ≡ sight_of t
