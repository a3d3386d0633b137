-- One instruction, where it is carried out, and a core there.
use Rattle.std.specs.Prelude.{ℕ, replicate, false, ◌%◌, ◌^◌}
use Rattle.arch1.specs.Clock as clock
use Rattle.arch1.specs.Datapath.{Datapath}
use Rattle.arch1.specs.Owes.{within}
use Rattle.arch1.specs.Refinement.{Rig, rig}
use Rattle.arch1.specs.declared.phase.Phase.TheVariants.{T1}
use Rattle.machine.specs.Machine.{Arch, wrote}

-- the word of `addi x1, x0, 5`
abbrev pub word : ℕ
word = 0x00500093 % 2 ^ 32

-- it stands everywhere
abbrev pub words : ℕ → ℕ
words k = word

-- the machine before it, with all registers zero, and after it
abbrev pub before : Arch
before = record { pc = 0; registers = replicate 32 0; words = words }

abbrev pub behind : Arch
behind = wrote before 1 5

-- a core between instructions there
abbrev pub at : Arch → Datapath
at a = clock.idle a.registers a.pc

-- the core after one clock
abbrev pub one_clock : Datapath
one_clock = within before 0 word 0 false T1

-- a core between instructions, and the memory
abbrev pub rig_at : Arch → Rig
rig_at a = rig (at a) a.words
