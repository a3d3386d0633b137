-- The calls of a script: one command a line, up to `quit` or the end.
use Rattle.std.specs.Prelude.{◌≡◌, ℕ, ◌+◌, List, [], ◌∷◌, ◌++◌, Option, Some, None, Result, Ok, Err}
use Rattle.bench.specs.declared.look.Look.TheVariants as looks
use Rattle.session.specs.declared.call.Call.{Call}
use Rattle.session.specs.declared.call.Call.TheVariants as calls
use Rattle.commands.specs.Lines.{lines}
use Rattle.commands.specs.Reading.{line_of}
use Rattle.commands.specs.declared.command.Command.{Command}
use Rattle.commands.specs.declared.command.Command.TheVariants as commands
use Rattle.commands.specs.declared.command.Line.{Line}
use Rattle.commands.specs.declared.command.Line.TheVariants as line
use Rattle.script.specs.declared.fault.ScriptFault.{ScriptFault}
use Rattle.script.specs.declared.fault.ScriptFault.TheVariants as fault

-- what `show` shows
abbrev pub shown : List Call
shown =
    calls.Look looks.Phase ∷ calls.Look looks.Pc ∷ calls.Look looks.Tr ∷ calls.Look looks.Ir ∷ calls.Look looks.Dr ∷ calls.Look looks.Ar ∷ calls.Look looks.Flg ∷ calls.Look looks.Clocks
    ∷ calls.Look looks.Retired ∷ calls.Look looks.Journal ∷ []

-- the calls that a command says; none where it ends the script
abbrev pub said_by : Command → Option (List Call)
said_by (commands.Call c) = Some (c ∷ [])
said_by commands.Show = Some shown
said_by commands.Quit = None

-- those that a line with this number says, or its number where it is no command
abbrev pub said : ℕ → Line → Result (Option (List Call)) ℕ
said number line.Empty = Ok (Some [])
said number (line.Command c) = Ok (said_by c)
said number line.Other = Err number

-- these calls, and then those of the lines that follow, unless one of these is no command
abbrev pub before : List Call → Result (List Call) ℕ → Result (List Call) ℕ
before cs (Ok later) = Ok (cs ++ later)
before cs (Err number) = Err number

-- what a line gives, where the lines that follow give `later`
abbrev pub and_then : Result (Option (List Call)) ℕ → Result (List Call) ℕ → Result (List Call) ℕ
and_then (Ok (Some cs)) later = before cs later
and_then (Ok None) later = Ok []
and_then (Err number) later = Err number

-- the calls of lines, of which the first has this number, or the number of the first line that is no command
abbrev pub calls_of : ℕ → List (List ℕ) → Result (List Call) ℕ
calls_of number [] = Ok []
calls_of number (l ∷ ls) = and_then (said number (line_of l)) (calls_of (number + 1) ls)

-- those of a script: its first line has the number 1
abbrev pub script : List ℕ → Result (List Call) ℕ
script text = calls_of 1 (lines text)

-- the refusal of a script that reads so; want of memory can refuse any script
abbrev pub FaultOf : Result (List Call) ℕ → ScriptFault → Type 0
FaultOf r (fault.NoCommand line) = r ≡ Err line
FaultOf r (fault.AllocError e) = Unit {0}
