-- The words of the commands, and the names of what is looked at.
use Rattle.std.specs.Prelude.{ℕ, List, [], ◌∷◌, codes}
use Rattle.bench.specs.declared.look.Look.{Look}
use Rattle.bench.specs.declared.look.Look.TheVariants as look
use Rattle.session.specs.declared.call.Call.{Call}
use Rattle.session.specs.declared.call.Call.TheVariants as call
use Rattle.commands.specs.declared.command.Command.{Command}
use Rattle.commands.specs.declared.command.Command.TheVariants as command

-- of a register what stands before its number, and of a byte what stands before its address
abbrev pub name_of : Look → List ℕ
name_of (look.Register n) = codes "x"
name_of (look.Byte address) = codes "byte"
name_of look.Pc = codes "pc"
name_of look.Tr = codes "tr"
name_of look.Ir = codes "ir"
name_of look.Dr = codes "dr"
name_of look.Ar = codes "ar"
name_of look.Flg = codes "flg"
name_of look.Phase = codes "phase"
name_of look.Clocks = codes "clocks"
name_of look.Retired = codes "retired"
name_of look.Journal = codes "journal"

-- what is looked at by its name alone
abbrev pub looks_by_name : List Look
looks_by_name = look.Pc ∷ look.Tr ∷ look.Ir ∷ look.Dr ∷ look.Ar ∷ look.Flg ∷ look.Phase ∷ look.Clocks ∷ look.Retired ∷ look.Journal ∷ []

-- the first word of a call, and of a command
abbrev pub call_word : Call → List ℕ
call_word call.Tick = codes "tick"
call_word call.Step = codes "step"
call_word (call.Run n) = codes "run"
call_word call.Back = codes "back"
call_word (call.Look at) = codes "look"

abbrev pub word_of : Command → List ℕ
word_of (command.Call c) = call_word c
word_of command.Show = codes "show"
word_of command.Quit = codes "quit"

-- the commands that are one word
abbrev pub commands_by_word : List Command
commands_by_word = command.Call call.Tick ∷ command.Call call.Step ∷ command.Call call.Back ∷ command.Show ∷ command.Quit ∷ []
