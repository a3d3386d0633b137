-- The table of commands: which line says which command. Each word stands after exactly one space.
use Rattle.std.specs.Prelude.{◌≡◌, ℕ, ◌^◌, ◌<◌, ◌++◌, List, [], Option, Some, codes, min}
use Rattle.std.specs.Str.Parse.{IsNumeral, digits_value}
use Rattle.bench.specs.declared.look.Look.{Look}
use Rattle.bench.specs.declared.look.Look.TheVariants as looks
use Rattle.session.specs.declared.call.Call.TheVariants as calls
use Rattle.commands.specs.declared.command.Command.{Command}
use Rattle.commands.specs.declared.command.Command.TheVariants as commands
use Rattle.commands.specs.declared.command.Line.{Line}
use Rattle.commands.specs.declared.command.Line.TheVariants as lines

-- the text is the number n in this base: digits of either case and nothing else, at least one, the highest first
pub record Numeral (base : ℕ) (text : List ℕ) (n : ℕ) : Type 0 where
  pub digits : IsNumeral base text
  pub value : digits_value base text ≡ n
  pub fits : n < 2 ^ 32

-- the text is the number n, decimal or hexadecimal
pub data Number : List ℕ → ℕ → Type 0 where
  decimal : {text : List ℕ} {n : ℕ} → Numeral 10 text n → Number text n
  hexadecimal : {text : List ℕ} {n : ℕ} → Numeral 16 text n → Number (codes "0x" ++ text) n

-- the text names what is looked at; the number of a register is carried up to 255
pub data Names : List ℕ → Look → Type 0 where
  register : {text : List ℕ} {n : ℕ} → Numeral 10 text n → Names (codes "x" ++ text) (looks.Register (min n 255))
  byte : {text : List ℕ} {n : ℕ} → Number text n → Names (codes "byte " ++ text) (looks.Byte n)
  pc : Names (codes "pc") looks.Pc
  tr : Names (codes "tr") looks.Tr
  ir : Names (codes "ir") looks.Ir
  dr : Names (codes "dr") looks.Dr
  ar : Names (codes "ar") looks.Ar
  flg : Names (codes "flg") looks.Flg
  phase : Names (codes "phase") looks.Phase
  clocks : Names (codes "clocks") looks.Clocks
  retired : Names (codes "retired") looks.Retired
  journal : Names (codes "journal") looks.Journal

-- the line says the command
pub data Says : List ℕ → Command → Type 0 where
  tick : Says (codes "tick") (commands.Call calls.Tick)
  step : Says (codes "step") (commands.Call calls.Step)
  run : {text : List ℕ} {n : ℕ} → Number text n → Says (codes "run " ++ text) (commands.Call (calls.Run n))
  back : Says (codes "back") (commands.Call calls.Back)
  look : {text : List ℕ} {at : Look} → Names text at → Says (codes "look " ++ text) (commands.Call (calls.Look at))
  show : Says (codes "show") commands.Show
  quit : Says (codes "quit") commands.Quit

-- what was read is what the line says
pub data Tells (text : List ℕ) : Line → Type 0 where
  empty : text ≡ [] → Tells text lines.Empty
  says : {c : Command} → Says text c → Tells text (lines.Command c)
  other : Tells text lines.Other

-- a line is read as what it says, and as no command only if it says none
pub record Reads (text : List ℕ) (r : Line) : Type 0 where
  pub tells : Tells text r
  pub none : text ≡ [] → r ≡ lines.Empty
  pub only : (c : Command) → Says text c → r ≡ lines.Command c

-- what was found is what a table says, and nothing was found only where it says nothing
pub record Finds {A : Type 0} (Table : A → Type 0) (r : Option A) : Type 0 where
  pub found : (a : A) → r ≡ Some a → Table a
  pub only : (a : A) → Table a → r ≡ Some a
