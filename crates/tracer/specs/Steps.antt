-- The lines of the steps of a bench.
use Rattle.std.specs.Prelude.{ℕ, zero, suc, ◌^◌, ◌<◌, List, [], ◌++◌, Some, None, Ok, Err, Option, Result}
use Rattle.arch1.specs.declared.phase.CoreFault.{CoreFault}
use Rattle.bench.specs.Calls.{step_answer, stepped_state, run_answer_for, ran_for, run_answer, ran_state}
use Rattle.bench.specs.State.{State}
use Rattle.bench.specs.declared.answers.RunFault.{RunFault}
use Rattle.bench.specs.declared.answers.Stepped.{Stepped}
use Rattle.bench.specs.declared.answers.Stop.{Stop}
use Rattle.trace_lines.specs.Lines.{step_of, number_of, stop_of}

-- the line of a step by its answer; none of a refused one
abbrev pub line_after : Result Stepped CoreFault → List ℕ
line_after (Ok x) = step_of x.address x.word x.clocks
line_after (Err f) = []

abbrev pub lines_on : Result Stepped CoreFault → List ℕ → List ℕ
lines_on (Ok x) rest = step_of x.address x.word x.clocks ++ rest
lines_on (Err f) rest = []

-- the lines of k steps, up to the first that is refused
unfoldable pub lines_for : ℕ → State → List ℕ
lines_for zero s = []
lines_for (suc k) s = lines_on (step_answer s) (lines_for k (stepped_state s))

-- what refused a step of a run
abbrev pub refusal_in : Result ℕ RunFault → Option Stop
refusal_in (Ok n) = None
refusal_in (Err f) = Some f.stop

-- the last line of a run that answered y and left the state s
abbrev pub stop_after : Result ℕ RunFault → State → List ℕ
stop_after y s = stop_of (number_of (refusal_in y)) s.core.pc s.retired s.clocks

-- the lines of k steps, and the last line after them
abbrev pub text_for : ℕ → State → List ℕ
text_for k s = lines_for k s ++ stop_after (run_answer_for 0 k s) (ran_for k s)

-- the last line of one run of k steps, which are 1,000,000 at most
unfoldable pub run_text : ℕ → State → List ℕ
run_text k s = stop_after (run_answer k s) (ran_state k s)

-- PC has 32 bits
pub record PcFits (s : State) : Type 0 where
  pub fits : s.core.pc < 2 ^ 32
