-- What the journal keeps of an instruction, and how it is taken back.
use Rattle.std.specs.Prelude.{ℕ, ◌+◌, List, Some, None, Ok, Err, Option, Result}
use Rattle.actions.specs.Actions.{action_of_word}
use Rattle.actions.specs.declared.action.Action.{Action}
use Rattle.actions.specs.declared.action.Action.TheVariants.{Comp, CompI, Lui, Auipc, Ld, St, Jal, Jalr, Br}
use Rattle.memory.specs.Meaning.{read_of, patched}
use Rattle.memory.specs.declared.fault.MemoryFault.{MemoryFault}
use Rattle.memory.specs.declared.kind.Kind.{Kind}
use Rattle.processor.specs.declared.access.Access.{Access}
use Rattle.processor.specs.declared.access.Access.TheVariants as access
use Rattle.registers.specs.Registers.{put_into}
use Rattle.arch1.specs.Datapath.{Datapath}
use Rattle.arch1.specs.Phases.{phase_number}
use Rattle.arch1.specs.Transfers.{x, access_in}
use Rattle.arch1.specs.declared.phase.Phase.{Phase}
use Rattle.arch1.specs.declared.phase.Phase.TheVariants.{T0, T1, T2, T3}
use Rattle.journal.specs.declared.entry.Entry.{Entry}
use Rattle.journal.specs.declared.entry.Overwritten.{Overwritten}
use Rattle.journal.specs.declared.entry.Overwritten.TheVariants.{Register, Bytes}

-- a register as it is
abbrev pub old_register : Datapath → ℕ → Option Overwritten
old_register c rd = Some (Register rd (x c rd))

-- the lanes of a word as they are
abbrev pub old_bytes_in : ℕ → ℕ → Result ℕ MemoryFault → Option Overwritten
old_bytes_in k mask (Ok w) = Some (Bytes mask k w)
old_bytes_in k mask (Err f) = None

abbrev pub overwritten_bytes : (ℕ → Kind) → (ℕ → ℕ) → ℕ → ℕ → Option Overwritten
overwritten_bytes K W k mask = old_bytes_in k mask (read_of k (K k) (W k))

-- what an access writes over
abbrev pub overwritten_through : (ℕ → Kind) → (ℕ → ℕ) → Access → Option Overwritten
overwritten_through K W access.Nothing = None
overwritten_through K W (access.Read k) = None
overwritten_through K W (access.Write k v mask) = overwritten_bytes K W k mask

-- what a clock writes over in T2 and in T3, by the class
abbrev pub overwritten_in_t2 : (ℕ → Kind) → (ℕ → ℕ) → Datapath → Option Action → Option Overwritten
overwritten_in_t2 K W c None = None
overwritten_in_t2 K W c (Some (Comp op rd rs1 rs2)) = old_register c rd
overwritten_in_t2 K W c (Some (CompI op rd rs1 imm)) = old_register c rd
overwritten_in_t2 K W c (Some (Lui rd imm)) = old_register c rd
overwritten_in_t2 K W c (Some (Auipc rd imm)) = old_register c rd
overwritten_in_t2 K W c (Some (Ld l rd rs1 imm)) = None
overwritten_in_t2 K W c (Some (St s rs1 rs2 imm)) = overwritten_through K W (access_in c (Some (St s rs1 rs2 imm)))
overwritten_in_t2 K W c (Some (Jal rd imm)) = old_register c rd
overwritten_in_t2 K W c (Some (Jalr rd rs1 imm)) = old_register c rd
overwritten_in_t2 K W c (Some (Br cmp rs1 rs2 imm)) = None

abbrev pub overwritten_in_t3 : Datapath → Option Action → Option Overwritten
overwritten_in_t3 c None = None
overwritten_in_t3 c (Some (Comp op rd rs1 rs2)) = None
overwritten_in_t3 c (Some (CompI op rd rs1 imm)) = None
overwritten_in_t3 c (Some (Lui rd imm)) = None
overwritten_in_t3 c (Some (Auipc rd imm)) = None
overwritten_in_t3 c (Some (Ld l rd rs1 imm)) = old_register c rd
overwritten_in_t3 c (Some (St s rs1 rs2 imm)) = None
overwritten_in_t3 c (Some (Jal rd imm)) = None
overwritten_in_t3 c (Some (Jalr rd rs1 imm)) = None
overwritten_in_t3 c (Some (Br cmp rs1 rs2 imm)) = None

abbrev pub overwritten_in : (ℕ → Kind) → (ℕ → ℕ) → Datapath → Phase → Option Overwritten
overwritten_in K W c T0 = None
overwritten_in K W c T1 = None
overwritten_in K W c T2 = overwritten_in_t2 K W c (action_of_word c.ir)
overwritten_in K W c T3 = overwritten_in_t3 c (action_of_word c.ir)

abbrev pub overwritten_by : (ℕ → Kind) → (ℕ → ℕ) → Datapath → Option Overwritten
overwritten_by K W c = overwritten_in K W c c.phase

-- the open instruction as the journal would keep it after this clock
abbrev pub entry_of : (ℕ → Kind) → (ℕ → ℕ) → Datapath → Entry
entry_of K W c = record { address = c.tr; word = c.ir; clocks = phase_number c.phase + 1; overwritten = overwritten_by K W c }

-- the registers and the words with what was written over put back
abbrev pub undone_registers : List ℕ → Option Overwritten → List ℕ
undone_registers rs None = rs
undone_registers rs (Some (Register n v)) = put_into rs n v
undone_registers rs (Some (Bytes mask k v)) = rs

abbrev pub undone_words : (ℕ → Kind) → (ℕ → ℕ) → Option Overwritten → ℕ → ℕ
undone_words K W None = W
undone_words K W (Some (Register n v)) = W
undone_words K W (Some (Bytes mask k v)) = patched K W k v mask
