-- RV32I by whole instructions: what one step does to PC, the registers and the words of the memory, or that it cannot be
-- carried out and why. Of clocks it knows only which instructions take one more. K gives the kind of each word, which no step changes.
use Rattle.std.specs.Prelude.{ℕ, zero, suc, ◌+◌, ◌-◌, ◌/◌, ◌%◌, ◌^◌, Bool, cond, List, Some, None, Ok, Err, Option, Result, ◌==◌}
use Rattle.isa.specs.declared.mnemonic.Class.{Class}
use Rattle.isa.specs.declared.mnemonic.Class.TheVariants as class
use Rattle.alu.specs.Operations.{operated}
use Rattle.alu.specs.Comparisons.{compared}
use Rattle.alu.specs.Loads.{loaded_of}
use Rattle.alu.specs.Stores as lanes
use Rattle.alu.specs.declared.loads.Load.{Load}
use Rattle.alu.specs.declared.loads.Load.TheVariants as load
use Rattle.alu.specs.declared.stores.Store.{Store}
use Rattle.alu.specs.declared.stores.Store.TheVariants as store
use Rattle.actions.specs.Actions.{action_of_word}
use Rattle.actions.specs.declared.action.Action.{Action}
use Rattle.actions.specs.declared.action.Action.TheVariants.{Comp, CompI, Lui, Auipc, Ld, St, Jal, Jalr, Br}
use Rattle.memory.specs.Lanes.{merged}
use Rattle.memory.specs.Meaning.{read_of, allowed}
use Rattle.memory.specs.declared.fault.MemoryFault.{MemoryFault}
use Rattle.memory.specs.declared.kind.Kind.{Kind}
use Rattle.registers.specs.Registers.{value_of, put_into}
use Rattle.machine.specs.declared.cause.Cause.{Cause}
use Rattle.machine.specs.declared.cause.Cause.TheVariants.{UnalignedPc, NoInstruction, UnalignedAddress, Memory}

-- the state between instructions
pub record Arch : Type 0 where
  pub pc : ℕ
  pub registers : List ℕ
  pub words : ℕ → ℕ

-- what a step comes to: the state after an instruction of a class, or why it cannot be carried out
pub data Step : Type 0 where
  went : Arch → Class → Step
  cannot : Cause → Step

-- sums of addresses and registers wrap
abbrev pub wrap : ℕ → ℕ
wrap n = n % 2 ^ 32

-- the number in register n
abbrev pub x : Arch → ℕ → ℕ
x a n = value_of a.registers n

-- the address of the instruction that follows
abbrev pub following : Arch → ℕ
following a = wrap (a.pc + 4)

-- rd ← v, and on with the instruction that follows
abbrev pub wrote : Arch → ℕ → ℕ → Arch
wrote a rd v = record { pc = following a; registers = put_into a.registers rd v; words = a.words }

-- rd ← the address that follows, and on at t
abbrev pub jumped : Arch → ℕ → ℕ → Arch
jumped a rd t = record { pc = t; registers = put_into a.registers rd (following a); words = a.words }

-- on at t
abbrev pub went_on : Arch → ℕ → Arch
went_on a t = record { pc = t; registers = a.registers; words = a.words }

-- t with bit 0 cleared
abbrev pub even : ℕ → ℕ
even t = t - t % 2

-- how many bytes a load or a store is about; its address must be a multiple
abbrev pub load_size : Load → ℕ
load_size load.Byte = 1
load_size load.Half = 2
load_size load.Word = 4
load_size load.ByteUnsigned = 1
load_size load.HalfUnsigned = 2

abbrev pub store_size : Store → ℕ
store_size store.Byte = 1
store_size store.Half = 2
store_size store.Word = 4

abbrev pub aligned : ℕ → ℕ → Bool
aligned address size = address % size == 0

-- the memory's refusal as a cause
abbrev pub caused : {X : Type 0} → Result X MemoryFault → Result X Cause
caused (Ok v) = Ok v
caused (Err f) = Err (Memory f)

-- the word of the memory that holds an address
abbrev pub word_at : (ℕ → Kind) → Arch → ℕ → Result ℕ Cause
word_at K a address = caused (read_of (address / 4) (K (address / 4)) (a.words (address / 4)))

-- the word that a load is about: the alignment is looked at first
abbrev pub loaded_word : (ℕ → Kind) → Arch → Load → ℕ → Result ℕ Cause
loaded_word K a l address = cond (aligned address (load_size l)) (word_at K a address) (Err UnalignedAddress)

-- rd ← what the load takes from the word
abbrev pub loads : Arch → Load → ℕ → ℕ → Result ℕ Cause → Step
loads a l rd address (Ok w) = went (wrote a rd (loaded_of l w address)) class.Ld
loads a l rd address (Err c) = cannot c

-- whether a store may be made: the alignment, then that the word is there, then that it is open
abbrev pub store_allowed : (ℕ → Kind) → Store → ℕ → Result (Unit {0}) Cause
store_allowed K s address = cond (aligned address (store_size s)) (caused (allowed (address / 4) (K (address / 4)))) (Err UnalignedAddress)

-- the words after a store of v: its lanes of the word that holds the address, and nothing else
abbrev pub stored_words : (ℕ → ℕ) → Store → ℕ → ℕ → ℕ → ℕ
stored_words words s address v k =
    cond (k == address / 4) (merged (lanes.mask_of s address) (lanes.value_of s v address) (words k)) (words k)

abbrev pub stores : Arch → Store → ℕ → ℕ → Result (Unit {0}) Cause → Step
stores a s address v (Ok _) = went (record { pc = following a; registers = a.registers; words = stored_words a.words s address v }) class.St
stores a s address v (Err c) = cannot c

-- what an instruction does
abbrev pub carried : (ℕ → Kind) → Arch → Option Action → Step
carried K a None = cannot NoInstruction
-- rd ← rs1 op rs2
carried K a (Some (Comp op rd rs1 rs2)) = went (wrote a rd (operated op (x a rs1) (x a rs2))) class.Comp
-- rd ← rs1 op immediate
carried K a (Some (CompI op rd rs1 imm)) = went (wrote a rd (operated op (x a rs1) imm)) class.CompI
-- rd ← immediate
carried K a (Some (Lui rd imm)) = went (wrote a rd imm) class.Lui
-- rd ← address of this instruction + immediate
carried K a (Some (Auipc rd imm)) = went (wrote a rd (wrap (a.pc + imm))) class.Auipc
-- rd ← memory at rs1 + immediate
carried K a (Some (Ld l rd rs1 imm)) = let address = wrap (x a rs1 + imm) in loads a l rd address (loaded_word K a l address)
-- memory at rs1 + immediate ← rs2
carried K a (Some (St s rs1 rs2 imm)) = let address = wrap (x a rs1 + imm) in stores a s address (x a rs2) (store_allowed K s address)
-- rd ← address that follows; on at the address of this instruction + immediate
carried K a (Some (Jal rd imm)) = went (jumped a rd (wrap (a.pc + imm))) class.Jal
-- rd ← address that follows; on at rs1 + immediate with bit 0 cleared, rs1 as it was before
carried K a (Some (Jalr rd rs1 imm)) = went (jumped a rd (even (wrap (x a rs1 + imm)))) class.Jalr
-- on at the address of this instruction + immediate if the comparison holds, else at the one that follows
carried K a (Some (Br c rs1 rs2 imm)) =
    went (went_on a (cond (compared c (x a rs1) (x a rs2)) (wrap (a.pc + imm)) (following a))) class.Br

-- the word at PC, if four divides PC and the word is there
abbrev pub fetched_word : (ℕ → Kind) → Arch → Result ℕ Cause
fetched_word K a = cond (aligned a.pc 4) (word_at K a a.pc) (Err UnalignedPc)

abbrev pub carried_word : (ℕ → Kind) → Arch → Result ℕ Cause → Step
carried_word K a (Ok w) = carried K a (action_of_word w)
carried_word K a (Err c) = cannot c

-- one step: the word at PC is read, decoded and carried out
abbrev pub stepped : (ℕ → Kind) → Arch → Step
stepped K a = carried_word K a (fetched_word K a)

-- 1 for a load and for a branch, taken or not, and 0 for any other
abbrev pub long : Class → ℕ
long class.Comp = 0
long class.CompI = 0
long class.Lui = 0
long class.Auipc = 0
long class.Ld = 1
long class.St = 0
long class.Jal = 0
long class.Jalr = 0
long class.Br = 1

-- where some steps came to, and how many of them were loads or branches
pub record Run : Type 0 where
  pub arch : Arch
  pub longs : ℕ

abbrev pub onward_by : Run → Step → Option Run
onward_by r (went b k) = Some (record { arch = b; longs = r.longs + long k })
onward_by r (cannot c) = None

abbrev pub onward : (ℕ → Kind) → Option Run → Option Run
onward K None = None
onward K (Some r) = onward_by r (stepped K r.arch)

-- n steps from a, each carried out; none where one of them cannot be
abbrev pub after : (ℕ → Kind) → Arch → ℕ → Option Run
after K a zero = Some (record { arch = a; longs = 0 })
after K a (suc n) = onward K (after K a n)
