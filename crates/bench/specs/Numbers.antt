-- The numbers of the refusals.
use Rattle.std.specs.Prelude.{ℕ}
use Rattle.machine.specs.Causes.{number_of}
use Rattle.bench.specs.declared.answers.Stop.{Stop}
use Rattle.bench.specs.declared.answers.Stop.TheVariants.{TooMany, Core}
use Rattle.bench.specs.declared.answers.BackFault.{BackFault}
use Rattle.bench.specs.declared.answers.BackFault.TheVariants.{NothingToTakeBack}

abbrev pub stop_number : Stop → ℕ
stop_number TooMany = 7
stop_number (Core f) = number_of f.cause

abbrev pub back_number : BackFault → ℕ
back_number NothingToTakeBack = 6
