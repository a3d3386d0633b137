-- The numbers of the phases.
use Rattle.std.specs.Prelude.{ℕ}
use Rattle.arch1.specs.declared.phase.Phase.{Phase}
use Rattle.arch1.specs.declared.phase.Phase.TheVariants.{T0, T1, T2, T3}

abbrev pub phase_number : Phase → ℕ
phase_number T0 = 0
phase_number T1 = 1
phase_number T2 = 2
phase_number T3 = 3
