-- When a branch is taken, by the registers a in rs1 and b in rs2, as numbers below 2 ^ 32.
use Rattle.std.specs.Prelude.{ℕ, Bool, not, eqb, ltb, leb}
use Rattle.std.specs.Int.Signed.{lt_z, le_z}
use Rattle.bits.specs.Sign.{signed_of}
use Rattle.alu.specs.declared.comparisons.Comparison.{Comparison}
use Rattle.alu.specs.declared.comparisons.Comparison.TheVariants.{Equal, NotEqual, Less, GreaterEqual, LessUnsigned, GreaterEqualUnsigned}

abbrev pub compared : Comparison → ℕ → ℕ → Bool
-- BEQ: rs1 and rs2 are equal
compared Equal a b = eqb a b
-- BNE: rs1 and rs2 are unequal
compared NotEqual a b = not (eqb a b)
-- BLT: rs1 is less than rs2, by a signed comparison
compared Less a b = lt_z (signed_of 32 a) (signed_of 32 b)
-- BGE: rs1 is greater than or equal to rs2, by a signed comparison
compared GreaterEqual a b = le_z (signed_of 32 b) (signed_of 32 a)
-- BLTU: rs1 is less than rs2, by an unsigned comparison
compared LessUnsigned a b = ltb a b
-- BGEU: rs1 is greater than or equal to rs2, by an unsigned comparison
compared GreaterEqualUnsigned a b = leb b a
