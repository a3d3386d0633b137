-- What a console answers to a line, and where the bench is after it.
use Rattle.std.specs.Prelude.{ℕ, List, [], ◌++◌, cond, length, Some, None, Option, codes}
use Rattle.answers.specs.Answers.{answer_line}
use Rattle.answers.specs.Shown.{show_line}
use Rattle.answers.specs.declared.shown.ShowLine.{ShowLine}
use Rattle.arch1.specs.Phases.{phase_number}
use Rattle.bench.specs.Law.{Kept}
use Rattle.bench.specs.State.{State}
use Rattle.commands.specs.Reading.{line_of}
use Rattle.commands.specs.declared.command.Command.{Command}
use Rattle.commands.specs.declared.command.Command.TheVariants as command
use Rattle.commands.specs.declared.command.Line.{Line}
use Rattle.commands.specs.declared.command.Line.TheVariants as line
use Rattle.session.specs.Lists.{answered, called, counted}

-- the phase, the registers of the datapath, and the counters
abbrev pub shown_of : State → ShowLine
shown_of s = record {
  phase = phase_number s.core.phase;
  pc = s.core.pc;
  tr = s.core.tr;
  ir = s.core.ir;
  dr = s.core.dr;
  ar = s.core.ar;
  flg = cond s.core.flg 1 0;
  clocks = s.clocks;
  retired = s.retired;
  journal = length s.journal;
}

-- the answer to a command, if it does not end the conversation
abbrev pub command_reply : Command → State → Option (List ℕ)
command_reply (command.Call c) s = Some (answer_line c (answered c s))
command_reply command.Show s = Some (show_line (shown_of s))
command_reply command.Quit s = None

-- the answer to a line, by what it says: none to an empty one, and a line that is no command comes back
abbrev pub line_reply : Line → List ℕ → State → Option (List ℕ)
line_reply line.Empty text s = Some []
line_reply (line.Command c) text s = command_reply c s
line_reply line.Other text s = Some (codes "what? " ++ (text ++ codes "\n"))

abbrev pub reply : List ℕ → State → Option (List ℕ)
reply text s = line_reply (line_of text) text s

-- only a call moves the bench
abbrev pub after_command : Command → State → State
after_command (command.Call c) s = called c s
after_command command.Show s = s
after_command command.Quit s = s

abbrev pub after_line : Line → State → State
after_line line.Empty s = s
after_line (line.Command c) s = after_command c s
after_line line.Other s = s

abbrev pub state_after : List ℕ → State → State
state_after text s = after_line (line_of text) s

-- how a line moves the count of the instructions that stand: a call as its answer says, anything else not at all
abbrev pub command_count : Command → State → ℕ → ℕ
command_count (command.Call c) s n = counted n (answered c s)
command_count command.Show s n = n
command_count command.Quit s n = n

abbrev pub line_count : Line → State → ℕ → ℕ
line_count line.Empty s n = n
line_count (line.Command c) s n = command_count c s n
line_count line.Other s n = n

-- whatever calls came before, the law stands after the line, with the count moved so
unfoldable pub LineKept : List ℕ → State → State → Type 0
LineKept text s t = Kept (line_count (line_of text) s) s t
