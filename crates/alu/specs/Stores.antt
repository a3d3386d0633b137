-- What a store writes to the word that holds the address.
use Rattle.std.specs.Prelude.{◌≡◌, cond, ℕ, ◌-◌, ◌*◌, ◌/◌, ◌%◌, ◌^◌, ◌<◌, eqb}
use Rattle.bits.specs.Field.{field}
use Rattle.alu.specs.Loads.{loaded_of}
use Rattle.alu.specs.declared.loads.Load.TheVariants as load
use Rattle.alu.specs.declared.stores.Store.{Store}
use Rattle.alu.specs.declared.stores.Store.TheVariants.{Byte, Half, Word}

-- the bytes in their lanes, and 0 in the other lanes
abbrev pub value_of : Store → ℕ → ℕ → ℕ
-- SB: the low 8 bits of rs2, in the lane of the address
value_of Byte value address = field 0 8 value * 2 ^ (8 * (address % 4))
-- SH: the low 16 bits of rs2, in the half that bit 1 of the address selects
value_of Half value address = field 0 16 value * 2 ^ (16 * (address / 2 % 2))
-- SW: the 32 bits of rs2
value_of Word value address = value

-- the lanes that are written: bit i for lane i
abbrev pub mask_of : Store → ℕ → ℕ
-- SB: the lane of the address
mask_of Byte address = 2 ^ (address % 4)
-- SH: 0011 or 1100
mask_of Half address = 3 * 2 ^ (2 * (address / 2 % 2))
-- SW: 1111
mask_of Word address = 15

-- the lane of the least significant byte that is stored
abbrev pub first_lane : Store → ℕ → ℕ
first_lane Byte address = address % 4
first_lane Half address = 2 * (address / 2 % 2)
first_lane Word address = 0

-- each lane that the mask names holds its byte of the register, counted from the first lane, and each other lane holds 0
abbrev pub Placed : Store → ℕ → ℕ → ℕ → ℕ → Type 0
Placed store value address word mask =
    (k : ℕ) → k < 4 → field (8 * k) 8 word ≡ cond (eqb (field k 1 mask) 1) (field (8 * (k - first_lane store address)) 8 value) 0

-- an unsigned load of the same size at the same address gives what was stored
abbrev pub ReadBack : Store → ℕ → ℕ → ℕ → Type 0
ReadBack Byte value address word = loaded_of load.ByteUnsigned word address ≡ field 0 8 value
ReadBack Half value address word = loaded_of load.HalfUnsigned word address ≡ field 0 16 value
ReadBack Word value address word = loaded_of load.Word word address ≡ value
