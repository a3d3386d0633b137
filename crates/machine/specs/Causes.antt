-- The numbers of the causes.
use Rattle.std.specs.Prelude.{ℕ}
use Rattle.memory.specs.Refusals as memory
use Rattle.machine.specs.declared.cause.Cause.{Cause}
use Rattle.machine.specs.declared.cause.Cause.TheVariants.{UnalignedPc, NoInstruction, UnalignedAddress, Memory}

abbrev pub number_of : Cause → ℕ
number_of UnalignedPc = 1
number_of NoInstruction = 3
number_of UnalignedAddress = 4
number_of (Memory f) = memory.number_of f.cause
