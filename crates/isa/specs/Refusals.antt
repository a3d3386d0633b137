-- The numbers of the refusals.
use Rattle.std.specs.Prelude.{ℕ}
use Rattle.isa.specs.declared.refusal.Refusal.{Refusal}
use Rattle.isa.specs.declared.refusal.Refusal.TheVariants.{NoInstruction, DoesNotFit}

abbrev pub number_of : Refusal → ℕ
number_of NoInstruction = 3
number_of DoesNotFit = 10
