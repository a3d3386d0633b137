-- Instructions, most with one operand left open.
use Rattle.std.specs.Prelude.{ℤ, pos}
use Rattle.isa.specs.declared.instruction.Instruction.{Instruction}
use Rattle.isa.specs.declared.mnemonic.Mnemonic.TheVariants.{Add, Addi, Beq, Jal, Lui, Slli, Sw}

-- ADDI x1, x0, z
abbrev pub addi : ℤ → Instruction
addi z = record { mnemonic = Addi; rd = 1; rs1 = 0; rs2 = 0; immediate = z }

-- SLLI x1, x0, z
abbrev pub slli : ℤ → Instruction
slli z = record { mnemonic = Slli; rd = 1; rs1 = 0; rs2 = 0; immediate = z }

-- SW x2, z(x1)
abbrev pub sw : ℤ → Instruction
sw z = record { mnemonic = Sw; rd = 0; rs1 = 1; rs2 = 2; immediate = z }

-- BEQ x1, x2, z
abbrev pub beq : ℤ → Instruction
beq z = record { mnemonic = Beq; rd = 0; rs1 = 1; rs2 = 2; immediate = z }

-- LUI x1, z
abbrev pub lui : ℤ → Instruction
lui z = record { mnemonic = Lui; rd = 1; rs1 = 0; rs2 = 0; immediate = z }

-- JAL x1, z
abbrev pub jal : ℤ → Instruction
jal z = record { mnemonic = Jal; rd = 1; rs1 = 0; rs2 = 0; immediate = z }

-- ADD x1, x2, x3
abbrev pub add : Instruction
add = record { mnemonic = Add; rd = 1; rs1 = 2; rs2 = 3; immediate = pos 0 }
