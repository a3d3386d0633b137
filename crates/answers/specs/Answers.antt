-- The lines that answer calls. Byte 10 ends each.
use Rattle.std.specs.Prelude.{ℕ, List, ◌++◌, codes, decimal, Ok, Err, Result, if◌then◌else◌}
use Rattle.arch1.specs.Phases.{phase_number}
use Rattle.arch1.specs.declared.phase.CoreFault.{CoreFault}
use Rattle.arch1.specs.declared.phase.Ticked.{Ticked}
use Rattle.bench.specs.Numbers.{back_number}
use Rattle.bench.specs.declared.answers.BackFault.{BackFault}
use Rattle.bench.specs.declared.answers.RunFault.{RunFault}
use Rattle.bench.specs.declared.answers.Stepped.{Stepped}
use Rattle.bench.specs.declared.look.LookFault.{LookFault}
use Rattle.session.specs.declared.call.Answer.{Answer}
use Rattle.session.specs.declared.call.Answer.TheVariants as answer
use Rattle.session.specs.declared.call.Call.{Call}
use Rattle.session.specs.declared.call.Call.TheVariants as call
use Rattle.trace_lines.specs.Lines.{step_of}
use Rattle.answers.specs.Refusals.{refused, core_refusal, run_refusal, look_refusal}
use Rattle.answers.specs.Shown.{width_of, shown_as}
use Rattle.answers.specs.declared.shown.Width.{Width}
use Rattle.answers.specs.declared.shown.Width.TheVariants as width

-- what a look answers is written as what was looked at; no other call answers a look
abbrev pub width_for : Call → Width
width_for call.Tick = width.Decimal
width_for call.Step = width.Decimal
width_for (call.Run n) = width.Decimal
width_for call.Back = width.Decimal
width_for (call.Look at) = width_of at

-- the next phase, and whether an instruction retired
abbrev pub tick_line : Result Ticked CoreFault → List ℕ
tick_line (Ok t) = codes "phase " ++ (decimal (phase_number t.next) ++ (if t.retired then codes " retired\n" else codes "\n"))
tick_line (Err f) = core_refusal f ++ codes "\n"

-- the line of the instruction in a trace
abbrev pub step_line : Result Stepped CoreFault → List ℕ
step_line (Ok s) = step_of s.address s.word s.clocks
step_line (Err f) = core_refusal f ++ codes "\n"

abbrev pub run_line : Result ℕ RunFault → List ℕ
run_line (Ok n) = codes "ran " ++ (decimal n ++ codes "\n")
run_line (Err f) = run_refusal f ++ codes "\n"

abbrev pub back_line : Result ℕ BackFault → List ℕ
back_line (Ok n) = codes "back " ++ (decimal n ++ codes "\n")
back_line (Err f) = refused (back_number f) ++ codes "\n"

abbrev pub look_line : Width → Result ℕ LookFault → List ℕ
look_line w (Ok n) = shown_as w n ++ codes "\n"
look_line w (Err f) = look_refusal f ++ codes "\n"

abbrev pub answer_line : Call → Answer → List ℕ
answer_line c (answer.Ticked r) = tick_line r
answer_line c (answer.Stepped r) = step_line r
answer_line c (answer.Ran r) = run_line r
answer_line c (answer.Back r) = back_line r
answer_line c (answer.Looked r) = look_line (width_for c) r
