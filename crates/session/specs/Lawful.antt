-- The law over a whole list of calls.
use Rattle.std.specs.Prelude.{◌≡◌, ℕ, List, take}
use Rattle.bench.specs.Calls.{new_state}
use Rattle.bench.specs.Law.{Start, Stands}
use Rattle.bench.specs.State.{State}
use Rattle.session.specs.Lists.{answers, played, standing, NeverShort}
use Rattle.session.specs.declared.call.Answer.{Answer}
use Rattle.session.specs.declared.call.Call.{Call}

-- a new bench of s
abbrev pub fresh_of : Start → State
fresh_of s = new_state s.kinds s.arch.words s.arch.registers s.arch.pc

-- the calls cs on a new bench of s gave these answers and left it in the state t; before the first call and after each,
-- as many instructions of RV32I stand as the answers so far say; none takes back more than stand, so that the count does not stop short at 0
pub record Lawful (s : Start) (cs : List Call) (given : List Answer) (t : State) : Type 0 where
  pub gave : given ≡ answers (fresh_of s) cs
  pub left : t ≡ played (fresh_of s) cs
  pub enough : NeverShort 0 given
  pub each : (k : ℕ) → Stands s (standing 0 (take k given)) (played (fresh_of s) (take k cs))
  pub last : Stands s (standing 0 given) t
