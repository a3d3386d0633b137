-- The text of an instruction, as assemblers write it: the mnemonic's name, then the operands in the form of its class.
use Rattle.std.specs.Prelude.{ℕ, ◌/◌, ◌%◌, ◌^◌, List, ◌++◌, ℤ, codes, decimal, unsigned_abs}
use Rattle.std.specs.Fmt.{signed_decimal}
use Rattle.isa.specs.Table.{row_of}
use Rattle.isa.specs.declared.instruction.Instruction.{Instruction}
use Rattle.isa.specs.declared.mnemonic.Class.{Class}
use Rattle.isa.specs.declared.mnemonic.Class.TheVariants.{Comp, CompI, Lui, Auipc, Ld, St, Jal, Jalr, Br}
use Rattle.assembly.specs.Hexadecimal.{hexadecimal}
use Rattle.assembly.specs.Names.{name_of}

-- x3, x1, x2
abbrev pub registers : ℕ → ℕ → ℕ → List ℕ
registers a b c = codes " x" ++ (decimal a ++ (codes ", x" ++ (decimal b ++ (codes ", x" ++ decimal c))))

-- x1, x2, -8
abbrev pub number : ℕ → ℕ → ℤ → List ℕ
number a b z = codes " x" ++ (decimal a ++ (codes ", x" ++ (decimal b ++ (codes ", " ++ signed_decimal z))))

-- x1, 16(x2)
abbrev pub place : ℕ → ℤ → ℕ → List ℕ
place a z b = codes " x" ++ (decimal a ++ (codes ", " ++ (signed_decimal z ++ (codes "(x" ++ (decimal b ++ codes ")")))))

-- x1, -4
abbrev pub target : ℕ → ℤ → List ℕ
target a z = codes " x" ++ (decimal a ++ (codes ", " ++ signed_decimal z))

-- x5, 0x12345: the upper twenty bits are those above the twelve that are zero
abbrev pub upper : ℕ → ℤ → List ℕ
upper a z = codes " x" ++ (decimal a ++ (codes ", 0x" ++ hexadecimal (unsigned_abs z / 4096 % 2 ^ 20)))

-- the operands in the form of a class
abbrev pub operands_of : Class → Instruction → List ℕ
operands_of Comp i = registers i.rd i.rs1 i.rs2
operands_of CompI i = number i.rd i.rs1 i.immediate
operands_of Lui i = upper i.rd i.immediate
operands_of Auipc i = upper i.rd i.immediate
operands_of Ld i = place i.rd i.immediate i.rs1
operands_of St i = place i.rs2 i.immediate i.rs1
operands_of Jal i = target i.rd i.immediate
operands_of Jalr i = place i.rd i.immediate i.rs1
operands_of Br i = number i.rs1 i.rs2 i.immediate

abbrev pub text_of : Instruction → List ℕ
text_of i = name_of i.mnemonic ++ operands_of (row_of i.mnemonic).class i
