-- The lines of calls. Byte 10 ends each.
use Rattle.std.specs.Prelude.{ℕ, ◌%◌, ◌^◌, Bool, List, [], ◌∷◌, ◌++◌, codes, decimal, Ok, Err, Result, if◌then◌else◌}
use Rattle.answers.specs.Answers.{answer_line}
use Rattle.assembly.specs.Hexadecimal.{eight_digits}
use Rattle.bench.specs.declared.look.LookFault.{LookFault}
use Rattle.commands.specs.Writing.{command_text}
use Rattle.commands.specs.declared.command.Command.TheVariants as command
use Rattle.session.specs.declared.call.Answer.{Answer}
use Rattle.session.specs.declared.call.Answer.TheVariants as answer
use Rattle.session.specs.declared.call.Call.{Call}

-- a call and its answer
abbrev pub call_of : Call → Answer → List ℕ
call_of c a = command_text (command.Call c) ++ (codes ": " ++ answer_line c a)

-- the number that a look showed; 0 of an answer that shows none
abbrev pub shown_in : Result ℕ LookFault → ℕ
shown_in (Ok n) = n
shown_in (Err f) = 0

abbrev pub seen : Answer → ℕ
seen (answer.Ticked r) = 0
seen (answer.Stepped r) = 0
seen (answer.Ran r) = 0
seen (answer.Back r) = 0
seen (answer.Looked r) = shown_in r

-- what the looks at phase, PC and both counters showed
abbrev pub watched_of : Answer → Answer → Answer → Answer → List ℕ
watched_of phase pc clocks retired =
    codes "phase " ++ (decimal (seen phase)
    ++ (codes " pc " ++ (eight_digits (seen pc % 2 ^ 32)
    ++ (codes " clocks " ++ (decimal (seen clocks)
    ++ (codes " retired " ++ decimal (seen retired)))))))

-- a call, after what these looks showed after it
abbrev pub step_line : Call → Answer → Answer → Answer → Answer → Answer → List ℕ
step_line c a phase pc clocks retired = watched_of phase pc clocks retired ++ (codes " | " ++ call_of c a)

-- the lines of calls, by the answers of each and of the four looks after it
abbrev pub call_lines : List Call → List Answer → List ℕ
call_lines (c ∷ cs) (a ∷ phase ∷ pc ∷ clocks ∷ retired ∷ more) = step_line c a phase pc clocks retired ++ call_lines cs more
call_lines _ _ = []

-- how many instructions stand, before the state that calls led to
abbrev pub played_head : ℕ → List ℕ
played_head n = codes "after the calls " ++ (decimal n ++ codes " instructions stand:\n")

-- before the state after so many steps and nothing else
abbrev pub straight_head : ℕ → List ℕ
straight_head n = codes "after " ++ (decimal n ++ codes " steps alone:\n")

-- whether both states are shown alike
abbrev pub verdict : Bool → List ℕ
verdict alike = if alike then codes "both are the same\n" else codes "they differ\n"

-- the first line of a script that is no command
abbrev pub no_command : ℕ → List ℕ
no_command n = codes "line " ++ (decimal n ++ codes ": what?\n")
