-- The immediate of each format: its bits as they stand in a word, and the number that they mean.
use Rattle.std.specs.Prelude.{ℕ, ◌+◌, ◌*◌, ◌^◌, ℤ, pos}
use Rattle.bits.specs.Field.{field}
use Rattle.bits.specs.Sign.{signed_of}
use Rattle.isa.specs.declared.mnemonic.Format.{Format}
use Rattle.isa.specs.declared.mnemonic.Format.TheVariants.{Register, Immediate, Shift, Store, Branch, Upper, Jump}

-- I: bits 31-20
abbrev pub imm_i : ℕ → ℕ
imm_i w = field 20 12 w

-- S: bits 31-25, 11-7
abbrev pub imm_s : ℕ → ℕ
imm_s w = field 25 7 w * 2 ^ 5 + field 7 5 w

-- B: bits 31, 7, 30-25, 11-8, and a zero
abbrev pub imm_b : ℕ → ℕ
imm_b w = field 31 1 w * 2 ^ 12 + field 7 1 w * 2 ^ 11 + field 25 6 w * 2 ^ 5 + field 8 4 w * 2 ^ 1

-- U: bits 31-12, and twelve zeros
abbrev pub imm_u : ℕ → ℕ
imm_u w = field 12 20 w * 2 ^ 12

-- J: bits 31, 19-12, 20, 30-21, and a zero
abbrev pub imm_j : ℕ → ℕ
imm_j w = field 31 1 w * 2 ^ 20 + field 12 8 w * 2 ^ 12 + field 20 1 w * 2 ^ 11 + field 21 10 w * 2 ^ 1

-- I, S, B and J are sign-extended; a shift amount is bits 24-20
abbrev pub immediate_of : Format → ℕ → ℤ
immediate_of Register w = pos 0
immediate_of Immediate w = signed_of 12 (imm_i w)
immediate_of Shift w = pos (field 20 5 w)
immediate_of Store w = signed_of 12 (imm_s w)
immediate_of Branch w = signed_of 13 (imm_b w)
immediate_of Upper w = pos (imm_u w)
immediate_of Jump w = signed_of 21 (imm_j w)
