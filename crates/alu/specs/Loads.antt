-- What a load puts into a register, from the word that holds the address.
use Rattle.std.specs.Prelude.{ℕ, ◌*◌, ◌/◌, ◌%◌, ℤ, pos}
use Rattle.bits.specs.Field.{field}
use Rattle.bits.specs.Sign.{extended, signed_of}
use Rattle.alu.specs.declared.loads.Load.{Load}
use Rattle.alu.specs.declared.loads.Load.TheVariants.{Byte, Half, Word, ByteUnsigned, HalfUnsigned}

-- the byte of the word at the address: lane 0 is the least significant
abbrev pub byte_at : ℕ → ℕ → ℕ
byte_at word address = field (8 * (address % 4)) 8 word

-- the half of the word at the address, which bit 1 of the address selects
abbrev pub half_at : ℕ → ℕ → ℕ
half_at word address = field (16 * (address / 2 % 2)) 16 word

abbrev pub loaded_of : Load → ℕ → ℕ → ℕ
-- LB: an 8-bit value from memory, sign-extended to 32 bits
loaded_of Byte word address = extended 8 (byte_at word address)
-- LH: a 16-bit value from memory, sign-extended to 32 bits
loaded_of Half word address = extended 16 (half_at word address)
-- LW: a 32-bit value from memory
loaded_of Word word address = word
-- LBU: an 8-bit value from memory, zero-extended to 32 bits
loaded_of ByteUnsigned word address = byte_at word address
-- LHU: a 16-bit value from memory, zero-extended to 32 bits
loaded_of HalfUnsigned word address = half_at word address

-- the number that the loaded bits stand for: signed in LB, LH and LW, unsigned in LBU and LHU
abbrev pub number_loaded : Load → ℕ → ℕ → ℤ
number_loaded Byte word address = signed_of 8 (byte_at word address)
number_loaded Half word address = signed_of 16 (half_at word address)
number_loaded Word word address = signed_of 32 word
number_loaded ByteUnsigned word address = pos (byte_at word address)
number_loaded HalfUnsigned word address = pos (half_at word address)
