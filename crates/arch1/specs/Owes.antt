-- What the core owes to RV32I by whole instructions in each phase: what the open instruction, at a, has read so far.
use Rattle.std.specs.Prelude.{◌≡◌, ℕ, ◌+◌, Bool, Some, Ok}
use Rattle.isa.specs.declared.mnemonic.Class.{Class}
use Rattle.isa.specs.declared.mnemonic.Class.TheVariants as class
use Rattle.alu.specs.Comparisons.{compared}
use Rattle.alu.specs.declared.comparisons.Comparison.{Comparison}
use Rattle.alu.specs.declared.loads.Load.{Load}
use Rattle.actions.specs.Actions.{action_of_word}
use Rattle.actions.specs.declared.action.Action.TheVariants.{Ld, Br}
use Rattle.machine.specs.Machine.{Arch, wrap, x, following, fetched_word, loaded_word}
use Rattle.memory.specs.declared.kind.Kind.{Kind}
use Rattle.arch1.specs.Datapath.{Datapath}
use Rattle.arch1.specs.declared.phase.Phase.{Phase}
use Rattle.arch1.specs.declared.phase.Phase.TheVariants.{T0, T1, T2, T3}

-- the clocks of an instruction: four of a load and of a branch, taken or not, and three of any other
abbrev pub clocks_of_class : Class → ℕ
clocks_of_class class.Comp = 3
clocks_of_class class.CompI = 3
clocks_of_class class.Lui = 3
clocks_of_class class.Auipc = 3
clocks_of_class class.Ld = 4
clocks_of_class class.St = 3
clocks_of_class class.Jal = 3
clocks_of_class class.Jalr = 3
clocks_of_class class.Br = 4

-- the core between instructions, at a, whatever lies in TR, IR, DR, AR and FLG
abbrev pub between : Arch → ℕ → ℕ → ℕ → ℕ → Bool → Datapath
between a t i d r f = record { registers = a.registers; pc = a.pc; tr = t; ir = i; dr = d; ar = r; flg = f; phase = T0 }

-- the core within the instruction at a: its address lies in TR, and PC is the address that follows
abbrev pub within : Arch → ℕ → ℕ → ℕ → Bool → Phase → Datapath
within a i d r f next = record { registers = a.registers; pc = following a; tr = a.pc; ir = i; dr = d; ar = r; flg = f; phase = next }

-- after so many clocks
pub data Owes (K : ℕ → Kind) (a : Arch) : ℕ → Datapath → Type 0 where
  -- none is open
  idle : (t i d r : ℕ) (f : Bool) → Owes K a 0 (between a t i d r f)
  -- DR has the word at PC
  fetched : (i w r : ℕ) (f : Bool) → fetched_word K a ≡ Ok w → Owes K a 1 (within a i w r f T1)
  -- IR has it
  decoded : (w d r : ℕ) (f : Bool) → fetched_word K a ≡ Ok w → Owes K a 2 (within a w d r f T2)
  -- it is a load, AR has its address and DR the word there
  loading : (w v : ℕ) (f : Bool) (l : Load) (rd rs1 imm : ℕ) → fetched_word K a ≡ Ok w → action_of_word w ≡ Some (Ld l rd rs1 imm) →
      loaded_word K a l (wrap (x a rs1 + imm)) ≡ Ok v → Owes K a 3 (within a w v (wrap (x a rs1 + imm)) f T3)
  -- it is a branch, and FLG says whether it is taken
  branching : (w d r : ℕ) (cmp : Comparison) (rs1 rs2 imm : ℕ) → fetched_word K a ≡ Ok w → action_of_word w ≡ Some (Br cmp rs1 rs2 imm) →
      Owes K a 3 (within a w d r (compared cmp (x a rs1) (x a rs2)) T3)
