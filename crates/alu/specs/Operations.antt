-- The operations on two registers, a in rs1 and b in rs2, as numbers below 2 ^ 32.
use Rattle.std.specs.Prelude.{ℕ, ◌+◌, ◌-◌, ◌*◌, ◌/◌, ◌%◌, ◌^◌, cond, ℤ, pos, negsuc, ltb}
use Rattle.std.specs.Int.Signed.{lt_z}
use Rattle.std.specs.Int.Bits.{bit_and, bit_or, bit_xor}
use Rattle.bits.specs.Sign.{signed_of}
use Rattle.alu.specs.declared.operations.Operation.{Operation}
use Rattle.alu.specs.declared.operations.Operation.TheVariants.{Add, Sub, Sll, Slt, Sltu, Xor, Srl, Sra, Or, And}

-- z / m, rounded down; negsuc n is - (n + 1)
abbrev pub floor_of : ℤ → ℕ → ℤ
floor_of (pos n) m = pos (n / m)
floor_of (negsuc n) m = negsuc (n / m)

-- z modulo 2 ^ 32
abbrev pub word_of : ℤ → ℕ
word_of (pos n) = n % 2 ^ 32
word_of (negsuc n) = 2 ^ 32 - 1 - n % 2 ^ 32

abbrev pub operated : Operation → ℕ → ℕ → ℕ
-- ADD: the sum; overflow is ignored, and the low 32 bits are the result
operated Add a b = (a + b) % 2 ^ 32
-- SUB: rs2 subtracted from rs1, in the same way
operated Sub a b = (a + 2 ^ 32 - b) % 2 ^ 32
-- SLL: a logical left shift by the lower 5 bits of rs2
operated Sll a b = a * 2 ^ (b % 32) % 2 ^ 32
-- SLT: a signed compare, 1 if rs1 < rs2 and 0 otherwise
operated Slt a b = cond (lt_z (signed_of 32 a) (signed_of 32 b)) 1 0
-- SLTU: an unsigned compare, 1 if rs1 < rs2 and 0 otherwise
operated Sltu a b = cond (ltb a b) 1 0
-- XOR: bitwise
operated Xor a b = bit_xor a b
-- SRL: a logical right shift by the lower 5 bits of rs2
operated Srl a b = a / 2 ^ (b % 32)
-- SRA: an arithmetic right shift by the lower 5 bits of rs2: the signed number divided by a power of two, rounded down
operated Sra a b = word_of (floor_of (signed_of 32 a) (2 ^ (b % 32)))
-- OR: bitwise
operated Or a b = bit_or a b
-- AND: bitwise
operated And a b = bit_and a b
