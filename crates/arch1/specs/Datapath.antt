-- The registers of the datapath.
use Rattle.std.specs.Prelude.{ℕ, Bool}
use Rattle.registers.specs.declared.file.RegisterFile.{RegisterFile}
use Rattle.arch1.specs.declared.phase.Phase.{Phase}

pub record Datapath : Type 0 where
  pub registers : RegisterFile
  pub pc : ℕ
  pub tr : ℕ
  pub ir : ℕ
  pub dr : ℕ
  pub ar : ℕ
  pub flg : Bool
  pub phase : Phase
