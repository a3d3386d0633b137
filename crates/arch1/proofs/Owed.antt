-- What the core owes, field by field.
use Rattle.std.proofs.Common.{◌≡◌, ℕ, refl}
use Rattle.machine.specs.Machine.{Arch}
use Rattle.memory.specs.declared.kind.Kind.{Kind}
use Rattle.arch1.specs.Datapath.{Datapath}
use Rattle.arch1.specs.Owes.{Owes, idle, fetched, decoded, loading, branching}
use Rattle.arch1.specs.declared.phase.Phase.TheVariants.{T0}

pub owes_registers : (K : ℕ → Kind) (a : Arch) (g : ℕ) (c : Datapath) → Owes K a g c → c.registers ≡ a.registers
owes_registers K a g c (idle t i d r f) = refl
owes_registers K a g c (fetched i w r f e) = refl
owes_registers K a g c (decoded w d r f e) = refl
owes_registers K a g c (loading w v f l rd rs1 imm e y h) = refl
owes_registers K a g c (branching w d r cmp rs1 rs2 imm e y) = refl

pub owes_pc : (K : ℕ → Kind) (a : Arch) (g : ℕ) (c : Datapath) → Owes K a g c → c.phase ≡ T0 → c.pc ≡ a.pc
owes_pc K a g c (idle t i d r f) p = refl
owes_pc K a g c (fetched i w r f e) p = cc
owes_pc K a g c (decoded w d r f e) p = cc
owes_pc K a g c (loading w v f l rd rs1 imm e y h) p = cc
owes_pc K a g c (branching w d r cmp rs1 rs2 imm e y) p = cc

-- with no clock gone, none is open
pub owes_idle : (K : ℕ → Kind) (a : Arch) (c : Datapath) → Owes K a 0 c → c.phase ≡ T0
owes_idle K a c (idle t i d r f) = refl
