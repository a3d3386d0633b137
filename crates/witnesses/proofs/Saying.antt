-- What texts say.
use Rattle.std.proofs.Common.{◌≡◌, ◌∙◌, ℕ, ◌^◌, ◌<◌, Bool, true, false, eqb, List, [], ◌∷◌, ◌++◌, length, get_or, Some, None, Option, refl, sym, subst, arith}
use Rattle.std.specs.Prelude.{codes}
use Rattle.std.specs.Option.{option_map_or}
use Rattle.bench.specs.declared.look.Look.{Look}
use Rattle.bench.specs.declared.look.Look.TheVariants as look
use Rattle.commands.proofs.Numerals.{number_in-Numeral, Numeral-number_in, number_found, number_of-Number, Number-number_of}
use Rattle.commands.proofs.Table as table
use Rattle.commands.specs.Numbers.{number_in}
use Rattle.commands.specs.Reading.{line_of}
use Rattle.commands.specs.Table.{Finds, Names, Number, Numeral, Reads, Says, Tells, decimal}
use Rattle.commands.specs.Lines.{Splits, newline, returned, last}
use Rattle.commands.specs.Table as rules
use Rattle.commands.specs.Texts.{ends}
use Rattle.commands.specs.Writing.{IsSized}
use Rattle.commands.specs.declared.command.Command.{Command}
use Rattle.commands.specs.declared.command.Command.TheVariants as command
use Rattle.commands.specs.declared.command.Line.{Line}
use Rattle.commands.specs.declared.command.Line.TheVariants as line
use Rattle.session.specs.declared.call.Call.{Call}
use Rattle.session.specs.declared.call.Call.TheVariants as call
use Rattle.setup.proofs.Asking.{arguments_of-Names, Names-arguments_of}
use Rattle.setup.specs.Options as arguments
use Rattle.setup.specs.Options.{Told}
use Rattle.witnesses.proofs.Apart.{apart}
use Rattle.witnesses.specs.Files.{shielded_to, shielding}

abbrev is_number : ℕ → Option ℕ → Bool
is_number n None = false
is_number n (Some m) = eqb m n

abbrev is_some : Option ℕ → Bool
is_some None = false
is_some (Some m) = true

twelve : Numeral 10 (codes "12") 12
unfolding number_in
twelve = Numeral-number_in 10 (codes "12") 12 refl

not_thirteen : Numeral 10 (codes "12") 13 → ⊥
unfolding number_in
not_thirteen n = apart (is_number 12) _ _ refl refl (number_in-Numeral 10 (codes "12") 13 n)

no_letter : (n : ℕ) → Numeral 10 (codes "1f") n → ⊥
unfolding number_in
no_letter n h = apart is_some _ _ refl refl (sym (number_in-Numeral 10 (codes "1f") n h))

not_too_large : (n : ℕ) → Numeral 10 (codes "4294967296") n → ⊥
unfolding number_in
not_too_large n h = apart is_some _ _ refl refl (sym (number_in-Numeral 10 (codes "4294967296") n h))

pub numeral : Numeral 10 (codes "12") 12 × (Numeral 10 (codes "12") 13 → ⊥) × ((n : ℕ) → Numeral 10 (codes "1f") n → ⊥) × ((n : ℕ) → Numeral 10 (codes "4294967296") n → ⊥)
numeral = (twelve, not_thirteen, no_letter, not_too_large)

pub number : Number (codes "0x1f") 31 × (Number (codes "0x1f") 1 → ⊥)
unfolding number_in
number = (
  Number-number_of (codes "0x1f") 31 refl,
  λ n. apart (is_number 31) _ _ refl refl (number_of-Number (codes "0x1f") 1 n),
)

pub found : Finds (Number (codes "0x1f")) (Some 31) × (Finds (Number (codes "0x1f")) None → ⊥) × (Finds (Number (codes "x")) (Some 3) → ⊥)
unfolding number_in
found = (
  number_found (codes "0x1f") (Some 31) refl,
  λ f. let none : None ≡ Some 31 = f.only 31 number.0 in cc,
  λ f. apart is_some _ _ refl refl (sym (number_of-Number (codes "x") 3 (f.found 3 refl))),
)

with_return : (text line rest : List ℕ) → Splits text line rest → text ≡ codes "a\r\nb" → line ≡ codes "a\r" → ⊥
with_return text line rest (newline one no_return) t e = let ended : true ≡ false = subst (λ l. ends l (codes "\r") ≡ false) e no_return in cc
with_return text line rest (returned {line = l} {rest = r} one) t e =
    apart (λ x. eqb (get_or x 2 0) 13) (codes "a\r" ++ (13 ∷ 10 ∷ r)) (codes "a\r\nb") refl refl (subst (λ x. x ++ (13 ∷ 10 ∷ r) ≡ codes "a\r\nb") e t)
with_return text line rest (last one) t e = apart (λ x. eqb (length x) 4) (codes "a\r\nb") (codes "a\r") refl refl (sym t ∙ e)

pub split : Splits (codes "a\r\nb") (codes "a") (codes "b") × (Splits (codes "a\r\nb") (codes "a\r") (codes "b") → ⊥)
split = (returned refl, λ s. with_return _ _ _ s refl refl)

-- where the shield of what was told ends
abbrev shield_end : Option Told → ℕ
shield_end None = 0
shield_end (Some t) = option_map_or (λ s. s.to) t.options.shield 0

pub named : arguments.Names shielding (shielded_to 2) × (arguments.Names shielding (shielded_to 3) → ⊥) × (arguments.Names [] (shielded_to 2) → ⊥)
unfolding number_in
named = (
  arguments_of-Names shielding (shielded_to 2) refl,
  λ n. apart (λ r. eqb (shield_end r) 3) _ _ refl refl (sym (Names-arguments_of shielding (shielded_to 3) n)),
  λ n. let none : None ≡ Some (shielded_to 2) = Names-arguments_of [] (shielded_to 2) n in cc,
)

-- the number in a line: of a run, or of a register that is looked at
abbrev looked : Look → ℕ
looked (look.Register n) = n
looked _ = 0

abbrev called : Call → ℕ
called (call.Run n) = n
called (call.Look at) = looked at
called _ = 0

abbrev commanded : Command → ℕ
commanded (command.Call c) = called c
commanded _ = 0

abbrev lined : Line → ℕ
lined (line.Command c) = commanded c
lined _ = 0

-- what a line says is what it is read as
said : (text : List ℕ) (c : Command) → Says text c → line_of text ≡ line.Command c
said text c s = (table.reads text (line_of text) refl).only c s

seven : Numeral 10 (codes "7") 7
unfolding number_in
seven = Numeral-number_in 10 (codes "7") 7 refl

not_eight : Names (codes "x7") (look.Register 8) → ⊥
unfolding number_in
not_eight n = apart (λ l. eqb (lined l) 7) _ _ refl refl (said (codes "look x7") (command.Call (call.Look (look.Register 8))) (rules.look n))

pub register : Names (codes "x7") (look.Register 7) × (Names (codes "x7") (look.Register 8) → ⊥)
register = (rules.register seven, not_eight)

run_twelve : Says (codes "run 12") (command.Call (call.Run 12))
run_twelve = rules.run (decimal twelve)

not_run_thirteen : Says (codes "run 12") (command.Call (call.Run 13)) → ⊥
unfolding number_in
not_run_thirteen s = apart (λ l. eqb (lined l) 12) _ _ refl refl (said (codes "run 12") (command.Call (call.Run 13)) s)

pub run : Says (codes "run 12") (command.Call (call.Run 12)) × (Says (codes "run 12") (command.Call (call.Run 13)) → ⊥)
run = (run_twelve, not_run_thirteen)

abbrev is_empty : Line → Bool
is_empty line.Empty = true
is_empty _ = false

told_nothing : (text : List ℕ) (l : Line) → Tells text l → is_empty l ≡ true → text ≡ []
told_nothing text l (rules.empty e) h = e
told_nothing text l (rules.says s) h = absurd (apart (λ b. b) true false refl refl (sym h))
told_nothing text l rules.other h = absurd (apart (λ b. b) true false refl refl (sym h))

pub nothing : Tells [] line.Empty × (Tells (codes "tick") line.Empty → ⊥)
nothing = (rules.empty refl, λ t. apart (λ l. eqb (length l) 4) (codes "tick") [] refl refl (told_nothing (codes "tick") line.Empty t refl))

pub line_read : (r : Line) → r ≡ line_of (codes "run 12") → r ≡ line.Command (command.Call (call.Run 12))
unfolding number_in
line_read r h = h

pub reads : Reads (codes "run 12") (line.Command (command.Call (call.Run 12))) × (Reads (codes "run 12") line.Other → ⊥) × (Reads (codes "run 12") (line.Command (command.Call (call.Run 13))) → ⊥)
unfolding number_in
reads = (
  table.reads (codes "run 12") _ refl,
  λ r. apart (λ l. eqb (lined l) 0) _ _ refl refl (r.only (command.Call (call.Run 12)) run_twelve),
  λ r. apart (λ l. eqb (lined l) 13) _ _ refl refl (r.only (command.Call (call.Run 12)) run_twelve),
)

too_many : IsSized (command.Call (call.Run (2 ^ 32))) → ⊥
too_many s = let l : 4294967296 < 4294967296 = s in omega arith

no_register : IsSized (command.Call (call.Look (look.Register 256))) → ⊥
no_register s = let l : 256 < 256 = s in omega arith

pub sizes : IsSized (command.Call (call.Run 5)) × (IsSized (command.Call (call.Run (2 ^ 32))) → ⊥) × (IsSized (command.Call (call.Look (look.Register 256))) → ⊥)
sizes = (omega arith, too_many, no_register)
