-- The tests by which the table is searched, and the relation that they decide.
-- Assumes nothing.
use Rattle.std.proofs.Common.{◌≡◌, ℕ, Bool, true, arith, rules}
use Rattle.std.specs.List.{list_all}
use Rattle.std.proofs.lemmas.Bool.Decides.{nat_tests}
use Rattle.isa.specs.declared.mnemonic.Format.{Format}
use Rattle.isa.specs.declared.mnemonic.Mnemonic.{Mnemonic}
use Rattle.isa.specs.declared.table.Row.{Row}
use Rattle.isa.specs.Decoding.{agrees, mnemonics}
use Rattle.isa.specs.Table.{Agrees}

-- the test says what the relation says
pub agrees_holds : (t : Format) (r : Row) (o f g : ℕ) → agrees t r o f g ≡ true → Agrees t r o f g
agrees_holds t r o f g h = search (rules, nat_tests)

pub holds_agrees : (t : Format) (r : Row) (o f g : ℕ) → Agrees t r o f g → agrees t r o f g ≡ true
holds_agrees t r o f g h = search (rules, nat_tests)

-- the list has every mnemonic
pub every : (p : Mnemonic → Bool) → list_all p mnemonics ≡ true → (m : Mnemonic) → p m ≡ true
every p h m = grind (arith, nat_tests)
