-- The table of the known values.
use Rattle.std.specs.Prelude.{ℕ, List, [], ◌∷◌, ℤ, pos, negsuc}
use Rattle.isa.specs.declared.instruction.Instruction.{Instruction}
use Rattle.isa.specs.declared.mnemonic.Mnemonic.{Mnemonic}
use Rattle.isa.specs.declared.mnemonic.Mnemonic.TheVariants.{Addi, Sw, Beq, Jal, Lui, Srai}
use Rattle.alu.specs.declared.operations.Operation.TheVariants.{Sra, Slt, Sltu}
use Rattle.alu.specs.declared.loads.Load.TheVariants.{Byte, ByteUnsigned}
use Rattle.alu.specs.declared.stores.Store.TheVariants as store
use Rattle.vectors.specs.Examples.{Example, reads, refused, gives, loads, writes}

-- mnemonic, rd, rs1, rs2, immediate
abbrev code : Mnemonic → ℕ → ℕ → ℕ → ℤ → Instruction
code m d s t z = record { mnemonic = m; rd = d; rs1 = s; rs2 = t; immediate = z }

abbrev pub table : List Example
table =
    -- ADDI x1, x0, 5
    reads 0x00500093 (code Addi 1 0 0 (pos 5))
    -- SW x1, 16(x0)
    ∷ reads 0x00102823 (code Sw 0 0 1 (pos 16))
    -- BEQ x1, x2, +8
    ∷ reads 0x00208463 (code Beq 0 1 2 (pos 8))
    -- JAL x1, -4
    ∷ reads 0xFFDFF0EF (code Jal 1 0 0 (negsuc 3))
    -- LUI x5, 0x12345000
    ∷ reads 0x123452B7 (code Lui 5 0 0 (pos 0x12345000))
    -- SRAI x1, x0, 1
    ∷ reads 0x40105093 (code Srai 1 0 0 (pos 1))
    -- the same with another funct7
    ∷ refused 0x20105093
    -- a shift amount is taken modulo 32
    ∷ gives Sra 0x80000000 33 0xC0000000
    ∷ gives Slt 0x80000000 0x7FFFFFFF 1
    ∷ gives Sltu 0x80000000 0x7FFFFFFF 0
    ∷ loads Byte 0x80 0 0xFFFFFF80
    ∷ loads ByteUnsigned 0x80 0 0x80
    -- lanes 0010
    ∷ writes store.Byte 0x80019 0b0010
    ∷ []
