-- The numbers of the refusals.
use Rattle.std.specs.Prelude.{ℕ}
use Rattle.benchfile.specs.declared.refusals.Refusal.{Refusal}
use Rattle.benchfile.specs.declared.refusals.Refusal.TheVariants.{NotBenchFile, Version, Header, Limit}

-- the number that stands for a refusal
abbrev pub number_of : Refusal → ℕ
number_of NotBenchFile = 11
number_of Version = 12
number_of Header = 13
number_of Limit = 7
