-- What a line says, by its bytes without its ending. Words are parted by exactly one space.
use Rattle.std.specs.Prelude.{ℕ, List, [], ◌∷◌, drop, Option, codes, min, if◌then◌else◌}
use Rattle.std.specs.List.{find}
use Rattle.std.specs.Option.{option_map, option_map_or}
use Rattle.std.specs.Str.{bytes_eq}
use Rattle.bench.specs.declared.look.Look.{Look}
use Rattle.bench.specs.declared.look.Look.TheVariants as look
use Rattle.session.specs.declared.call.Call.TheVariants as call
use Rattle.commands.specs.Numbers.{number_in, number_of}
use Rattle.commands.specs.Texts.{begins}
use Rattle.commands.specs.Words.{name_of, word_of, looks_by_name, commands_by_word}
use Rattle.commands.specs.declared.command.Command.{Command}
use Rattle.commands.specs.declared.command.Command.TheVariants as command
use Rattle.commands.specs.declared.command.Line.{Line}
use Rattle.commands.specs.declared.command.Line.TheVariants as line

-- a register's number is decimal, and carried as 255 if it is larger: it is as well the number of no register
abbrev pub register_of : ℕ → Look
register_of n = look.Register (min n 255)

-- what is looked at, by what follows `look `
abbrev pub look_of : List ℕ → Option Look
look_of place =
    if begins place (codes "byte ") then option_map look.Byte (number_of (drop 5 place))
    else if begins place (codes "x") then option_map register_of (number_in 10 (drop 1 place))
    else find (λ l. bytes_eq (name_of l) place) looks_by_name

abbrev pub run_of : ℕ → Command
run_of n = command.Call (call.Run n)

abbrev pub looking_at : Look → Command
looking_at at = command.Call (call.Look at)

abbrev pub command_of : List ℕ → Option Command
command_of text =
    if begins text (codes "run ") then option_map run_of (number_of (drop 4 text))
    else if begins text (codes "look ") then option_map looking_at (look_of (drop 5 text))
    else find (λ c. bytes_eq (word_of c) text) commands_by_word

abbrev pub line_of : List ℕ → Line
line_of [] = line.Empty
line_of (c ∷ cs) = option_map_or line.Command (command_of (c ∷ cs)) line.Other
