-- What is written of a command says that command.
use Rattle.std.proofs.Common.{◌≡◌, sym, subst, ℕ, ◌^◌, ◌<◌, List, ◌++◌, min, arith, lit≤}
use Rattle.std.specs.Prelude.{codes, decimal, false}
use Rattle.std.proofs.lemmas.Fmt.{decimal_is_IsNumeral, digits_is_IsNumeral}
use Rattle.bench.specs.declared.look.Look.{Look}
use Rattle.bench.specs.declared.look.Look.TheVariants as looks
use Rattle.session.specs.declared.call.Call.TheVariants as calls
use Rattle.commands.specs.Table as table
use Rattle.commands.specs.Table.{Numeral, Names, Says, Reads}
use Rattle.commands.specs.Writing.{hexadecimal, look_text, command_text, IsSizedLook, IsSized}
use Rattle.commands.specs.declared.command.Command.{Command}
use Rattle.commands.specs.declared.command.Command.TheVariants as commands
use Rattle.commands.specs.declared.command.Line.{Line}
use Rattle.commands.specs.declared.command.Line.TheVariants as lines

decimal_is : (n : ℕ) → n < 2 ^ 32 → Numeral 10 (decimal n) n
decimal_is n h = let is = decimal_is_IsNumeral n (omega arith) in record { digits = is.0; value = is.1; fits = h }

hexadecimal_is : (n : ℕ) → n < 2 ^ 32 → Numeral 16 (hexadecimal n) n
hexadecimal_is n h = let is = digits_is_IsNumeral 16 false (lit≤ tt) (lit≤ tt) n (omega arith) in record { digits = is.0; value = is.1; fits = h }

look_named : (at : Look) → IsSizedLook at → Names (look_text at) at
look_named (looks.Register n) h =
    let same : min n 255 ≡ n = omega arith in
    subst (λ (m : ℕ). Names (codes "x" ++ decimal n) (looks.Register m)) same (table.register (decimal_is n (omega arith)))
look_named (looks.Byte address) h = table.byte (table.hexadecimal (hexadecimal_is address h))
look_named looks.Pc h = table.pc
look_named looks.Tr h = table.tr
look_named looks.Ir h = table.ir
look_named looks.Dr h = table.dr
look_named looks.Ar h = table.ar
look_named looks.Flg h = table.flg
look_named looks.Phase h = table.phase
look_named looks.Clocks h = table.clocks
look_named looks.Retired h = table.retired
look_named looks.Journal h = table.journal

said : (c : Command) → IsSized c → Says (command_text c) c
said (commands.Call calls.Tick) h = table.tick
said (commands.Call calls.Step) h = table.step
said (commands.Call (calls.Run n)) h = table.run (table.decimal (decimal_is n h))
said (commands.Call calls.Back) h = table.back
said (commands.Call (calls.Look at)) h = table.look (look_named at h)
said commands.Show h = table.show
said commands.Quit h = table.quit

pub reread : (c : Command) (text : List ℕ) (r : Line) → text ≡ command_text c → Reads text r → IsSized c → r ≡ lines.Command c
reread c text r written reads sized = reads.only c (subst (λ (t : List ℕ). Says t c) (sym written) (said c sized))
