-- The numbers of the refusals.
use Rattle.std.specs.Prelude.{ℕ}
use Rattle.memory.specs.declared.fault.Cause.{Cause}
use Rattle.memory.specs.declared.fault.Cause.TheVariants.{NoWord, FixedWord, BadMask}

abbrev pub number_of : Cause → ℕ
number_of NoWord = 2
number_of FixedWord = 5
number_of BadMask = 9
