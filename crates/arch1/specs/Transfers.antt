-- The register-transfer table of ARCH-1: what each phase does to the registers of the core, by the class of the instruction in IR.
use Rattle.std.specs.Prelude.{ℕ, ◌+◌, ◌/◌, Bool, cond, Some, None, Ok, Err, Option, Result}
use Rattle.alu.specs.Operations.{operated}
use Rattle.alu.specs.Comparisons.{compared}
use Rattle.alu.specs.Loads.{loaded_of}
use Rattle.alu.specs.Stores as lanes
use Rattle.actions.specs.Actions.{action_of_word}
use Rattle.actions.specs.declared.action.Action.{Action}
use Rattle.actions.specs.declared.action.Action.TheVariants.{Comp, CompI, Lui, Auipc, Ld, St, Jal, Jalr, Br}
use Rattle.machine.specs.Machine.{wrap, even, aligned, load_size, store_size}
use Rattle.machine.specs.declared.cause.Cause.{Cause}
use Rattle.machine.specs.declared.cause.Cause.TheVariants.{UnalignedPc, NoInstruction, UnalignedAddress, Memory}
use Rattle.memory.specs.declared.fault.MemoryFault.{MemoryFault}
use Rattle.processor.specs.Accesses.{word_in, written_in}
use Rattle.processor.specs.declared.access.Access.{Access}
use Rattle.processor.specs.declared.access.Access.TheVariants as access
use Rattle.processor.specs.declared.access.Reply.{Reply}
use Rattle.registers.specs.Registers.{value_of, put_into}
use Rattle.arch1.specs.Datapath.{Datapath}
use Rattle.arch1.specs.declared.phase.Phase.{Phase}
use Rattle.arch1.specs.declared.phase.Phase.TheVariants.{T0, T1, T2, T3}

-- what a clock comes to: the core goes on with the instruction or retires it, or the clock is refused
pub data Outcome : Type 0 where
  goes : Datapath → Outcome
  retires : Datapath → Outcome
  refuses : Cause → Outcome

-- the number in register n
abbrev pub x : Datapath → ℕ → ℕ
x c n = value_of c.registers n

-- rd ← v
abbrev pub put : Datapath → ℕ → ℕ → Datapath
put c rd v = record {
  registers = put_into c.registers rd v;
  pc = c.pc;
  tr = c.tr;
  ir = c.ir;
  dr = c.dr;
  ar = c.ar;
  flg = c.flg;
  phase = c.phase;
}

-- PC ← t
abbrev pub jump : Datapath → ℕ → Datapath
jump c t = record { registers = c.registers; pc = t; tr = c.tr; ir = c.ir; dr = c.dr; ar = c.ar; flg = c.flg; phase = c.phase }

-- the phase that follows
abbrev pub in_phase : Phase → Datapath → Datapath
in_phase next c = record { registers = c.registers; pc = c.pc; tr = c.tr; ir = c.ir; dr = c.dr; ar = c.ar; flg = c.flg; phase = next }

-- the instruction is done, and T0 follows
abbrev pub retire : Datapath → Outcome
retire c = retires (in_phase T0 c)

-- T0: DR ← word at PC, TR ← PC, PC ← PC + 4
abbrev pub fetches : Datapath → Result ℕ MemoryFault → Outcome
fetches c (Ok w) = goes (record { registers = c.registers; pc = wrap (c.pc + 4); tr = c.pc; ir = c.ir; dr = w; ar = c.ar; flg = c.flg; phase = T1 })
fetches c (Err f) = refuses (Memory f)

-- T1: IR ← DR
abbrev pub decodes : Datapath → Outcome
decodes c = goes (record { registers = c.registers; pc = c.pc; tr = c.tr; ir = c.dr; dr = c.dr; ar = c.ar; flg = c.flg; phase = T2 })

-- T2 of a load: AR ← address, DR ← word there
abbrev pub loads : Datapath → ℕ → Result ℕ MemoryFault → Outcome
loads c address (Ok w) = goes (record { registers = c.registers; pc = c.pc; tr = c.tr; ir = c.ir; dr = w; ar = address; flg = c.flg; phase = T3 })
loads c address (Err f) = refuses (Memory f)

-- T2 of a store: AR ← address, the store is written
abbrev pub stores : Datapath → ℕ → Result (Unit {0}) MemoryFault → Outcome
stores c address (Ok _) = retire (record { registers = c.registers; pc = c.pc; tr = c.tr; ir = c.ir; dr = c.dr; ar = address; flg = c.flg; phase = c.phase })
stores c address (Err f) = refuses (Memory f)

-- T2 of a branch: FLG ← comparison
abbrev pub compares : Datapath → Bool → Outcome
compares c b = goes (record { registers = c.registers; pc = c.pc; tr = c.tr; ir = c.ir; dr = c.dr; ar = c.ar; flg = b; phase = T3 })

-- T2
abbrev pub executes : Datapath → Reply → Option Action → Outcome
executes c r None = refuses NoInstruction
executes c r (Some (Comp op rd rs1 rs2)) = retire (put c rd (operated op (x c rs1) (x c rs2)))
executes c r (Some (CompI op rd rs1 imm)) = retire (put c rd (operated op (x c rs1) imm))
executes c r (Some (Lui rd imm)) = retire (put c rd imm)
executes c r (Some (Auipc rd imm)) = retire (put c rd (wrap (c.tr + imm)))
executes c r (Some (Ld l rd rs1 imm)) =
    let address = wrap (x c rs1 + imm) in cond (aligned address (load_size l)) (loads c address (word_in r)) (refuses UnalignedAddress)
executes c r (Some (St s rs1 rs2 imm)) =
    let address = wrap (x c rs1 + imm) in cond (aligned address (store_size s)) (stores c address (written_in r)) (refuses UnalignedAddress)
executes c r (Some (Jal rd imm)) = retire (jump (put c rd c.pc) (wrap (c.tr + imm)))
executes c r (Some (Jalr rd rs1 imm)) = retire (jump (put c rd c.pc) (even (wrap (x c rs1 + imm))))
executes c r (Some (Br cmp rs1 rs2 imm)) = compares c (compared cmp (x c rs1) (x c rs2))

-- T3: only a load and a branch come here
abbrev pub finishes : Datapath → Option Action → Outcome
finishes c None = retire c
finishes c (Some (Comp op rd rs1 rs2)) = retire c
finishes c (Some (CompI op rd rs1 imm)) = retire c
finishes c (Some (Lui rd imm)) = retire c
finishes c (Some (Auipc rd imm)) = retire c
finishes c (Some (Ld l rd rs1 imm)) = retire (put c rd (loaded_of l c.dr c.ar))
finishes c (Some (St s rs1 rs2 imm)) = retire c
finishes c (Some (Jal rd imm)) = retire c
finishes c (Some (Jalr rd rs1 imm)) = retire c
finishes c (Some (Br cmp rs1 rs2 imm)) = retire (jump c (cond c.flg (wrap (c.tr + imm)) c.pc))

-- the table, by the phase; T0 looks at the alignment of PC first
abbrev pub transfer_by : Datapath → Reply → Phase → Outcome
transfer_by c r T0 = cond (aligned c.pc 4) (fetches c (word_in r)) (refuses UnalignedPc)
transfer_by c r T1 = decodes c
transfer_by c r T2 = executes c r (action_of_word c.ir)
transfer_by c r T3 = finishes c (action_of_word c.ir)

abbrev pub transfer : Datapath → Reply → Outcome
transfer c r = transfer_by c r c.phase

-- what a clock asks of the memory: in T0 the word at PC, in T2 a load's word or a store's lanes, where the address is aligned
abbrev pub access_in : Datapath → Option Action → Access
access_in c None = access.Nothing
access_in c (Some (Comp op rd rs1 rs2)) = access.Nothing
access_in c (Some (CompI op rd rs1 imm)) = access.Nothing
access_in c (Some (Lui rd imm)) = access.Nothing
access_in c (Some (Auipc rd imm)) = access.Nothing
access_in c (Some (Ld l rd rs1 imm)) =
    let address = wrap (x c rs1 + imm) in cond (aligned address (load_size l)) (access.Read (address / 4)) access.Nothing
access_in c (Some (St s rs1 rs2 imm)) =
    let address = wrap (x c rs1 + imm) in
    cond (aligned address (store_size s)) (access.Write (address / 4) (lanes.value_of s (x c rs2) address) (lanes.mask_of s address)) access.Nothing
access_in c (Some (Jal rd imm)) = access.Nothing
access_in c (Some (Jalr rd rs1 imm)) = access.Nothing
access_in c (Some (Br cmp rs1 rs2 imm)) = access.Nothing

abbrev pub access_by : Datapath → Phase → Access
access_by c T0 = cond (aligned c.pc 4) (access.Read (c.pc / 4)) access.Nothing
access_by c T1 = access.Nothing
access_by c T2 = access_in c (action_of_word c.ir)
access_by c T3 = access.Nothing

abbrev pub access_of : Datapath → Access
access_of c = access_by c c.phase
