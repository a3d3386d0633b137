-- What each published macro puts into a program, step by step: the macro of the instruction m.
use Rattle.std.specs.Prelude.{ℕ, ◌+◌, ◌*◌, ◌%◌, ◌^◌, [], ◌∷◌, ℤ, pos, negsuc}
use Rattle.std.specs.Int.{cast_signed, cast_unsigned, w32}
use Rattle.bits.specs.Field.{field}
use Rattle.bits.specs.Sign.{extended}
use Rattle.isa.specs.declared.mnemonic.Mnemonic.{Mnemonic}
use Rattle.isa.specs.declared.mnemonic.Mnemonic.TheVariants.{Srai, Sub}
use Rattle.rv32ui_cases.specs.Instructions.{addi, bne, branch, immediate, jal, register, store, upper}
use Rattle.rv32ui_cases.specs.Programs.{ahead, check, delay_slot, failing, in_data, in_turn, la, li, looped, nops, put, put_skipped}
use Rattle.rv32ui_cases.specs.declared.program.Program.{Program}
use Rattle.rv32ui_cases.specs.declared.shapes.branch_cases.Branch.{Branch}
use Rattle.rv32ui_cases.specs.declared.shapes.branch_cases.Branch.TheVariants as br
use Rattle.rv32ui_cases.specs.declared.shapes.immediate_cases.Immediate.{Immediate}
use Rattle.rv32ui_cases.specs.declared.shapes.immediate_cases.Immediate.TheVariants as imm
use Rattle.rv32ui_cases.specs.declared.shapes.jump_cases.Jump.{Jump}
use Rattle.rv32ui_cases.specs.declared.shapes.jump_cases.Jump.TheVariants as jump
use Rattle.rv32ui_cases.specs.declared.shapes.load_cases.Load.{Load}
use Rattle.rv32ui_cases.specs.declared.shapes.load_cases.Load.TheVariants as ld
use Rattle.rv32ui_cases.specs.declared.shapes.register_cases.Registers.{Registers}
use Rattle.rv32ui_cases.specs.declared.shapes.register_cases.Registers.TheVariants as rr
use Rattle.rv32ui_cases.specs.declared.shapes.store_cases.Store.{Store}
use Rattle.rv32ui_cases.specs.declared.shapes.store_cases.Store.TheVariants as st
use Rattle.rv32ui_cases.specs.declared.shapes.upper_cases.Upper.{Upper}
use Rattle.rv32ui_cases.specs.declared.shapes.upper_cases.Upper.TheVariants as up

-- two registers
abbrev pub registers_put : Mnemonic → Registers → Program → Program
registers_put m (rr.Op r a b) = in_turn (li 11 a ∷ li 12 b ∷ put (register m 14 11 12) ∷ check 14 r ∷ [])
registers_put m (rr.Src1EqDest r a b) = in_turn (li 11 a ∷ li 12 b ∷ put (register m 11 11 12) ∷ check 11 r ∷ [])
registers_put m (rr.Src2EqDest r a b) = in_turn (li 11 a ∷ li 12 b ∷ put (register m 12 11 12) ∷ check 12 r ∷ [])
registers_put m (rr.Src12EqDest r a) = in_turn (li 11 a ∷ put (register m 11 11 11) ∷ check 11 r ∷ [])
registers_put m (rr.DestBypass n r a b) = in_turn (looped (li 1 a ∷ li 2 b ∷ put (register m 14 1 2) ∷ nops n ∷ put (addi 6 14 (pos 0)) ∷ []) ∷ check 6 r ∷ [])
registers_put m (rr.Src12Bypass n1 n2 r a b) = in_turn (looped (li 1 a ∷ nops n1 ∷ li 2 b ∷ nops n2 ∷ put (register m 14 1 2) ∷ []) ∷ check 14 r ∷ [])
registers_put m (rr.Src21Bypass n1 n2 r a b) = in_turn (looped (li 2 b ∷ nops n1 ∷ li 1 a ∷ nops n2 ∷ put (register m 14 1 2) ∷ []) ∷ check 14 r ∷ [])
registers_put m (rr.ZeroSrc1 r b) = in_turn (li 1 b ∷ put (register m 2 0 1) ∷ check 2 r ∷ [])
registers_put m (rr.ZeroSrc2 r a) = in_turn (li 1 a ∷ put (register m 2 1 0) ∷ check 2 r ∷ [])
registers_put m (rr.ZeroSrc12 r) = in_turn (put (register m 1 0 0) ∷ check 1 r ∷ [])
registers_put m (rr.ZeroDest a b) = in_turn (li 1 a ∷ li 2 b ∷ put (register m 0 1 2) ∷ check 0 0 ∷ [])

-- the number that twelve bits stand for
abbrev pub twelve : ℕ → ℤ
twelve bits = cast_signed w32 (extended 12 (field 0 12 bits))

-- a register and an immediate
abbrev pub immediate_put : Mnemonic → Immediate → Program → Program
immediate_put m (imm.Op r a bits) = in_turn (li 13 a ∷ put (immediate m 14 13 (twelve bits)) ∷ check 14 r ∷ [])
immediate_put m (imm.Src1EqDest r a bits) = in_turn (li 11 a ∷ put (immediate m 11 11 (twelve bits)) ∷ check 11 r ∷ [])
immediate_put m (imm.DestBypass n r a bits) = in_turn (looped (li 1 a ∷ put (immediate m 14 1 (twelve bits)) ∷ nops n ∷ put (addi 6 14 (pos 0)) ∷ []) ∷ check 6 r ∷ [])
immediate_put m (imm.Src1Bypass n r a bits) = in_turn (looped (li 1 a ∷ nops n ∷ put (immediate m 14 1 (twelve bits)) ∷ []) ∷ check 14 r ∷ [])
immediate_put m (imm.ZeroSrc1 r bits) = in_turn (put (immediate m 1 0 (twelve bits)) ∷ check 1 r ∷ [])
immediate_put m (imm.ZeroDest a bits) = in_turn (li 1 a ∷ put (immediate m 0 1 (twelve bits)) ∷ check 0 0 ∷ [])

-- the upper twenty bits, in their place
abbrev pub raised : ℕ → ℤ
raised bits = pos (bits * 4096 % 2 ^ 32)

-- the distance is that of the address behind `la` and JAL, which JAL gives
abbrev pub upper_put : Mnemonic → Upper → Program → Program
upper_put m (up.Lui r bits) = in_turn (put (upper m 1 (raised bits)) ∷ check 1 r ∷ [])
upper_put m (up.LuiShifted r bits places) = in_turn (put (upper m 1 (raised bits)) ∷ put (immediate Srai 1 1 (pos places)) ∷ check 1 r ∷ [])
upper_put m (up.LuiZeroDest bits) = in_turn (put (upper m 0 (raised bits)) ∷ check 0 0 ∷ [])
upper_put m (up.AuipcDistance z) =
    let d = cast_unsigned w32 z in
    in_turn ((λ p. la 10 ((ahead 3 p + d) % 2 ^ 32) p) ∷ put (jal 11 (pos 4)) ∷ put (register Sub 10 10 11) ∷ check 10 d ∷ [])

abbrev pub load_put : Mnemonic → Load → Program → Program
load_put m (ld.Op r z base) = in_turn (la 2 (in_data base) ∷ put (immediate m 14 2 z) ∷ check 14 r ∷ [])
load_put m (ld.DestBypass n r z base) = looped (la 13 (in_data base) ∷ put (immediate m 14 13 z) ∷ nops n ∷ put (addi 6 14 (pos 0)) ∷ check 6 r ∷ [])
load_put m (ld.Src1Bypass n r z base) = looped (la 13 (in_data base) ∷ nops n ∷ put (immediate m 14 13 z) ∷ check 14 r ∷ [])
load_put m (ld.MovedBase r moved z) = in_turn (la 1 (in_data 0) ∷ put (addi 1 1 moved) ∷ put (immediate m 5 1 z) ∷ check 5 r ∷ [])
load_put m (ld.Overwritten n) = in_turn (la 5 (in_data 0) ∷ put (immediate m 2 5 (pos 0)) ∷ nops n ∷ li 2 2 ∷ check 2 2 ∷ [])

-- a store, and the load l that reads back
abbrev pub store_put : Mnemonic → Store → Program → Program
store_put m (st.Op l r z base) = in_turn (la 2 (in_data base) ∷ li 1 r ∷ put (store m 1 z 2) ∷ put (immediate l 14 2 z) ∷ check 14 r ∷ [])
store_put m (st.Src12Bypass n1 n2 l r z base) = looped (li 13 r ∷ nops n1 ∷ la 12 (in_data base) ∷ nops n2 ∷ put (store m 13 z 12) ∷ put (immediate l 14 12 z) ∷ check 14 r ∷ [])
store_put m (st.Src21Bypass n1 n2 l r z base) = looped (la 2 (in_data base) ∷ nops n1 ∷ li 1 r ∷ nops n2 ∷ put (store m 1 z 2) ∷ put (immediate l 14 2 z) ∷ check 14 r ∷ [])
store_put m (st.MovedBase l r n base) = in_turn (la 1 (in_data base) ∷ li 2 n ∷ put (addi 4 1 (negsuc 31)) ∷ put (store m 2 (pos 32) 4) ∷ put (immediate l 5 1 (pos 0)) ∷ check 5 r ∷ [])
store_put m (st.UnalignedBase l r n moved base read) = in_turn (la 1 (in_data base) ∷ li 2 n ∷ put (addi 1 1 moved) ∷ put (store m 2 (pos 7) 1) ∷ la 4 (in_data read) ∷ put (immediate l 5 4 (pos 0)) ∷ check 5 r ∷ [])

-- the checks of a path: a branch to where the checks that fail go to
abbrev pub past_check : Program → Program
past_check = failing (λ z. put_skipped (bne 0 3 z))

-- a branch: forwards, back, and forwards past the second check
abbrev pub branch_put : Mnemonic → Branch → Program → Program
branch_put m (br.OpTaken a b) = in_turn (li 1 a ∷ li 2 b ∷ put (branch m 1 2 (pos 12)) ∷ past_check ∷ put (bne 0 3 (pos 12)) ∷ put (branch m 1 2 (negsuc 3)) ∷ past_check ∷ [])
branch_put m (br.OpNotTaken a b) = in_turn (li 1 a ∷ li 2 b ∷ put (branch m 1 2 (pos 8)) ∷ put (bne 0 3 (pos 8)) ∷ past_check ∷ put (branch m 1 2 (negsuc 3)) ∷ [])
branch_put m (br.Src12Bypass n1 n2 a b) = looped (li 1 a ∷ nops n1 ∷ li 2 b ∷ nops n2 ∷ failing (λ z. put (branch m 1 2 z)) ∷ [])
branch_put m (br.DelaySlot rs1 rs2) = in_turn (li 1 1 ∷ put (branch m rs1 rs2 (pos 20)) ∷ delay_slot 1 4 ∷ check 1 3 ∷ [])

-- JALR by a register, with the link in x5, and the check of the link
abbrev pub link_put : Mnemonic → ℕ → Program → Program
link_put m rs1 p =
    in_turn ((λ q. la rs1 (ahead 4 q) q) ∷ put (immediate m 5 rs1 (pos 0)) ∷ failing (λ z. put_skipped (jal 0 z)) ∷ la 6 (ahead 3 p) ∷ failing (λ z. put (bne 5 6 z)) ∷ []) p

-- JAL with the link in x4, over three instructions, and the check of the link
abbrev pub jal_link_put : Program → Program
jal_link_put p =
    in_turn (put (jal 4 (pos 16)) ∷ put_skipped (addi 0 0 (pos 0)) ∷ put_skipped (addi 0 0 (pos 0)) ∷ failing (λ z. put_skipped (jal 0 z)) ∷ la 2 (ahead 1 p) ∷ failing (λ z. put (bne 2 4 z)) ∷ []) p

abbrev pub jump_put : Mnemonic → Jump → Program → Program
jump_put m jump.JalLink = in_turn (li 1 0 ∷ jal_link_put ∷ [])
jump_put m jump.JalDelaySlot = in_turn (li 1 1 ∷ put (jal 0 (pos 20)) ∷ delay_slot 1 4 ∷ check 1 3 ∷ [])
jump_put m jump.JalrLink = in_turn (li 5 0 ∷ link_put m 6 ∷ [])
jump_put m jump.JalrSrc1EqDest = link_put m 5
jump_put m (jump.JalrSrc1Bypass n) = looped ((λ p. la 6 (ahead (n + 4) p) p) ∷ nops n ∷ put (immediate m 13 6 (pos 0)) ∷ past_check ∷ [])
jump_put m jump.JalrDelaySlot = in_turn (li 5 1 ∷ (λ p. la 6 (ahead 7 p) p) ∷ put (immediate m 0 6 (negsuc 3)) ∷ delay_slot 5 3 ∷ check 5 4 ∷ [])
jump_put m jump.Simple = in_turn (li 3 1 ∷ li 17 93 ∷ li 10 0 ∷ [])
