-- Lists of calls and of answers.
use Rattle.std.specs.Prelude.{ℕ, ◌≤◌, List, [], ◌∷◌}
use Rattle.bench.specs.Calls.{tick_answer, ticked_state, step_answer, stepped_state, run_answer, ran_state, back_answer, back_state}
use Rattle.bench.specs.Law.{tick_count, step_count, run_count, back_count, taken_back}
use Rattle.bench.specs.Looks.{look_answer}
use Rattle.bench.specs.State.{State}
use Rattle.session.specs.declared.call.Answer.{Answer}
use Rattle.session.specs.declared.call.Answer.TheVariants as answer
use Rattle.session.specs.declared.call.Call.{Call}
use Rattle.session.specs.declared.call.Call.TheVariants as call

-- what a call answers, and the state that it leaves
abbrev pub answered : Call → State → Answer
answered call.Tick t = answer.Ticked (tick_answer t)
answered call.Step t = answer.Stepped (step_answer t)
answered (call.Run n) t = answer.Ran (run_answer n t)
answered call.Back t = answer.Back (back_answer t)
answered (call.Look at) t = answer.Looked (look_answer at t)

abbrev pub called : Call → State → State
called call.Tick t = ticked_state t
called call.Step t = stepped_state t
called (call.Run n) t = ran_state n t
called call.Back t = back_state t
called (call.Look at) t = t

-- calls one after another, each on the state that the one before left
abbrev pub answers : State → List Call → List Answer
answers t [] = []
answers t (c ∷ cs) = answered c t ∷ answers (called c t) cs

abbrev pub played : State → List Call → State
played t [] = t
played t (c ∷ cs) = played (called c t) cs

-- how an answer moves the count of the instructions that stand
abbrev pub counted : ℕ → Answer → ℕ
counted n (answer.Ticked r) = tick_count n r
counted n (answer.Stepped r) = step_count n r
counted n (answer.Ran r) = run_count n r
counted n (answer.Back r) = back_count n r
counted n (answer.Looked r) = n

-- how many instructions an answer takes back
abbrev pub taken : Answer → ℕ
taken (answer.Ticked r) = 0
taken (answer.Stepped r) = 0
taken (answer.Ran r) = 0
taken (answer.Back r) = taken_back r
taken (answer.Looked r) = 0

-- no answer takes back more instructions than stand before it, n before the first
abbrev pub NeverShort : ℕ → List Answer → Type 0
NeverShort n [] = Unit {0}
NeverShort n (x ∷ more) = (taken x ≤ n) × NeverShort (counted n x) more

-- the instructions that stand after some answers, of n before them
abbrev pub standing : ℕ → List Answer → ℕ
standing n [] = n
standing n (x ∷ more) = standing (counted n x) more
