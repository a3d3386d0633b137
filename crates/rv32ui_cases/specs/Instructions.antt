-- Instructions by their operands, as assemblers write them.
use Rattle.std.specs.Prelude.{ℕ, ℤ, pos}
use Rattle.isa.specs.declared.instruction.Instruction.{Instruction}
use Rattle.isa.specs.declared.mnemonic.Mnemonic.{Mnemonic}
use Rattle.isa.specs.declared.mnemonic.Mnemonic.TheVariants.{Addi, Bne, Jal}

-- rd, rs1, rs2
abbrev pub register : Mnemonic → ℕ → ℕ → ℕ → Instruction
register m rd rs1 rs2 = record { mnemonic = m; rd = rd; rs1 = rs1; rs2 = rs2; immediate = pos 0 }

-- rd, rs1 and an immediate: also loads and JALR
abbrev pub immediate : Mnemonic → ℕ → ℕ → ℤ → Instruction
immediate m rd rs1 z = record { mnemonic = m; rd = rd; rs1 = rs1; rs2 = 0; immediate = z }

-- rs2 to an offset from rs1
abbrev pub store : Mnemonic → ℕ → ℤ → ℕ → Instruction
store m rs2 z rs1 = record { mnemonic = m; rd = 0; rs1 = rs1; rs2 = rs2; immediate = z }

-- by rs1 and rs2, to an offset: the operands of a store
abbrev pub branch : Mnemonic → ℕ → ℕ → ℤ → Instruction
branch m rs1 rs2 z = store m rs2 z rs1

-- rd and a number: LUI, AUIPC and JAL
abbrev pub upper : Mnemonic → ℕ → ℤ → Instruction
upper m rd z = immediate m rd 0 z

abbrev pub addi : ℕ → ℕ → ℤ → Instruction
addi rd rs1 z = immediate Addi rd rs1 z

abbrev pub bne : ℕ → ℕ → ℤ → Instruction
bne rs1 rs2 z = branch Bne rs1 rs2 z

abbrev pub jal : ℕ → ℤ → Instruction
jal rd z = upper Jal rd z
