-- Which instructions have a word: registers are below 32, an operand that the format lacks is 0, and the immediate
-- is one that the format can hold.
use Rattle.std.specs.Prelude.{◌≡◌, ℕ, ◌%◌, ◌<◌, ℤ, pos, negsuc, ◌≤ℤ◌, unsigned_abs}
use Rattle.isa.specs.declared.instruction.Instruction.{Instruction}
use Rattle.isa.specs.declared.mnemonic.Format.{Format}
use Rattle.isa.specs.declared.mnemonic.Format.TheVariants.{Register, Immediate, Shift, Store, Branch, Upper, Jump}
use Rattle.isa.specs.Table.{row_of}

abbrev pub Between : ℤ → ℤ → ℤ → Type 0
Between low high z = (low ≤ℤ z) × (z ≤ℤ high)

-- m divides z
abbrev pub Divides : ℕ → ℤ → Type 0
Divides m z = unsigned_abs z % m ≡ 0

-- the immediates of a format; `negsuc n` is -(n + 1)
abbrev pub Holds : Format → ℤ → Type 0
-- none
Holds Register z = z ≡ pos 0
-- -2048 to 2047
Holds Immediate z = Between (negsuc 2047) (pos 2047) z
-- 0 to 31
Holds Shift z = Between (pos 0) (pos 31) z
-- -2048 to 2047
Holds Store z = Between (negsuc 2047) (pos 2047) z
-- even, -4096 to 4094
Holds Branch z = Between (negsuc 4095) (pos 4094) z × Divides 2 z
-- multiples of 4096, 0 to below 2^32
Holds Upper z = Between (pos 0) (pos 4294967295) z × Divides 4096 z
-- even, -1048576 to 1048574
Holds Jump z = Between (negsuc 1048575) (pos 1048574) z × Divides 2 z

abbrev pub FitsFormat : Format → Instruction → Type 0
FitsFormat Register i = (i.rd < 32) × (i.rs1 < 32) × (i.rs2 < 32) × Holds Register i.immediate
FitsFormat Immediate i = (i.rd < 32) × (i.rs1 < 32) × (i.rs2 ≡ 0) × Holds Immediate i.immediate
FitsFormat Shift i = (i.rd < 32) × (i.rs1 < 32) × (i.rs2 ≡ 0) × Holds Shift i.immediate
FitsFormat Store i = (i.rd ≡ 0) × (i.rs1 < 32) × (i.rs2 < 32) × Holds Store i.immediate
FitsFormat Branch i = (i.rd ≡ 0) × (i.rs1 < 32) × (i.rs2 < 32) × Holds Branch i.immediate
FitsFormat Upper i = (i.rd < 32) × (i.rs1 ≡ 0) × (i.rs2 ≡ 0) × Holds Upper i.immediate
FitsFormat Jump i = (i.rd < 32) × (i.rs1 ≡ 0) × (i.rs2 ≡ 0) × Holds Jump i.immediate

-- the instruction i fits the format of its mnemonic
abbrev pub Fits : Instruction → Type 0
Fits i = FitsFormat (row_of i.mnemonic).format i
