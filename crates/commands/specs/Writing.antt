-- How a command is written, without an ending.
use Rattle.std.specs.Prelude.{ℕ, ◌^◌, ◌<◌, false, List, ◌++◌, codes, decimal}
use Rattle.std.specs.Fmt.{digits}
use Rattle.bench.specs.declared.look.Look.{Look}
use Rattle.bench.specs.declared.look.Look.TheVariants as look
use Rattle.session.specs.declared.call.Call.{Call}
use Rattle.session.specs.declared.call.Call.TheVariants as call
use Rattle.commands.specs.Words.{name_of, word_of}
use Rattle.commands.specs.declared.command.Command.{Command}
use Rattle.commands.specs.declared.command.Command.TheVariants as command

-- a number in lower-case hexadecimal digits, without leading zeros
abbrev pub hexadecimal : ℕ → List ℕ
hexadecimal n = digits 16 false n

-- what follows the name of what is looked at
abbrev pub after_name : Look → List ℕ
after_name (look.Register n) = decimal n
after_name (look.Byte address) = codes " 0x" ++ hexadecimal address
after_name _ = codes ""

abbrev pub look_text : Look → List ℕ
look_text at = name_of at ++ after_name at

-- what follows the word of a call, and of a command
abbrev pub after_call_word : Call → List ℕ
after_call_word (call.Run n) = codes " " ++ decimal n
after_call_word (call.Look at) = codes " " ++ look_text at
after_call_word _ = codes ""

abbrev pub after_word : Command → List ℕ
after_word (command.Call c) = after_call_word c
after_word _ = codes ""

abbrev pub command_text : Command → List ℕ
command_text c = word_of c ++ after_word c

-- the numbers have the bits of their types, as those of every command in the code have
abbrev pub IsSizedLook : Look → Type 0
IsSizedLook (look.Register n) = n < 2 ^ 8
IsSizedLook (look.Byte address) = address < 2 ^ 32
IsSizedLook _ = Unit {0}

abbrev pub IsSizedCall : Call → Type 0
IsSizedCall (call.Run n) = n < 2 ^ 32
IsSizedCall (call.Look at) = IsSizedLook at
IsSizedCall _ = Unit {0}

abbrev pub IsSized : Command → Type 0
IsSized (command.Call c) = IsSizedCall c
IsSized _ = Unit {0}
