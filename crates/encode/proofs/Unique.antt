-- A word is known by its fields, and a signed number of so many bits by the number that it stands for.
-- Assumes nothing.
use Rattle.std.proofs.Common.{◌≡◌, ℕ, suc, ◌-◌, ◌%◌, ◌^◌, ◌<◌, ◌≤◌, ◌⊎◌, ℤ, pos, negsuc, ◌+ℤ◌, ◌<ℤ◌, ◌≤ℤ◌, sym, refl, ap, ◌∙◌, inl, inr, ⊎_elim, one-mul, arith, rules, Ok, Err, Result, MatchResult, mod-eq_of_lt}
use Rattle.isa.specs.declared.refusal.Refusal.{Refusal}
use Rattle.isa.specs.Refusals.{number_of}
use Rattle.encode.specs.Words.{Within, Carries, Filled, Only}
use Rattle.isa.specs.declared.table.Row.{Row}
use Rattle.isa.specs.Table.{Agrees}
use Rattle.std.proofs.lemmas.Int.{ints}
use Rattle.std.specs.Int.{int_rem_euclid}
use Rattle.std.proofs.lemmas.Nat.{pow_pos}
use Rattle.std.proofs.lemmas.Bool.{cases_lt}
use Rattle.bits.specs.Field.{field}
use Rattle.bits.specs.Sign.{signed_of}
use Rattle.bits.proofs.SignExtension.{doubled, top_clear, top_set}
use Rattle.isa.specs.declared.instruction.Instruction.{Instruction}
use Rattle.isa.specs.declared.mnemonic.Format.{Format}
use Rattle.isa.specs.declared.mnemonic.Format.TheVariants.{Store, Branch}
use Rattle.isa.specs.Fitting.{Divides}
use Rattle.isa.specs.Immediates.{imm_s, imm_b, imm_j, immediate_of}
use Rattle.isa.specs.Reading.{rd_of, rs1_of, rs2_of, in_format}

-- the six fields, and the three of a word with a long immediate
pub same_word : (w v : ℕ) → w < 2 ^ 32 → v < 2 ^ 32 → field 0 7 w ≡ field 0 7 v → field 7 5 w ≡ field 7 5 v → field 12 3 w ≡ field 12 3 v → field 15 5 w ≡ field 15 5 v → field 20 5 w ≡ field 20 5 v → field 25 7 w ≡ field 25 7 v → w ≡ v
same_word w v hw hv a b c d e f = search rules

pub same_upper : (w v : ℕ) → w < 2 ^ 32 → v < 2 ^ 32 → field 0 7 w ≡ field 0 7 v → field 7 5 w ≡ field 7 5 v → field 12 20 w ≡ field 12 20 v → w ≡ v
same_upper w v hw hv a b c = search rules

module _ (width : ℕ) (some : 0 < width) where
  low_value : (x : ℕ) → x < 2 ^ (width - 1) → signed_of width x ≡ pos x
  low_value x lo = rw (top_clear width x lo) (omega (arith, ints))

  high_value : (x : ℕ) → x < 2 ^ width → 2 ^ (width - 1) ≤ x → signed_of width x +ℤ pos (2 ^ width) ≡ pos x
  high_value x fits hi = rw (top_set width x some fits hi, one-mul) (omega (arith, ints))

  -- the bits of a number, from its value
  pub same_number : (a b : ℕ) → a < 2 ^ width → b < 2 ^ width → signed_of width a ≡ signed_of width b → a ≡ b
  same_number a b ha hb e =
      let two = doubled width some in
      ⊎_elim
      (λ la. let va = low_value a la in ⊎_elim (λ lb. let vb = low_value b lb in omega (arith, ints)) (λ gb. let vb = high_value b hb gb in omega (arith, ints)) (cases_lt b (2 ^ (width - 1))))
      (λ ga. let va = high_value a ha ga in ⊎_elim (λ lb. let vb = low_value b lb in omega (arith, ints)) (λ gb. let vb = high_value b hb gb in omega (arith, ints)) (cases_lt b (2 ^ (width - 1))))
      (cases_lt a (2 ^ (width - 1)))

  -- the bits of a number are its residue
  pub residue : (x : ℕ) (z : ℤ) → Within width z → pos x ≡ int_rem_euclid z (pos (2 ^ width)) → (x < 2 ^ width) × (signed_of width x ≡ z)
  residue x (pos a) within is =
      let two = doubled width some in
      let under : pos a <ℤ pos (2 ^ (width - 1)) = within.1 in
      let some_half = pow_pos (width - 1) in
      let low : a < 2 ^ (width - 1) = omega (arith, ints) in
      let same : x ≡ a = let e : x ≡ a % 2 ^ width = cc in e ∙ mod-eq_of_lt (omega arith) in
      rw same (omega arith, low_value a low)
  residue x (negsuc a) within is =
      let two = doubled width some in
      let over : negsuc (2 ^ (width - 1) - 1) ≤ℤ negsuc a = within.0 in
      let some_half = pow_pos (width - 1) in
      let low : a < 2 ^ (width - 1) = omega (arith, ints) in
      let same : x ≡ 2 ^ width - 1 - a = let e : x ≡ 2 ^ width - 1 - a % 2 ^ width = cc in e ∙ ap (λ n. 2 ^ width - 1 - n) (mod-eq_of_lt (omega arith)) in
      let fits : x < 2 ^ width = omega arith in
      let value = high_value x fits (omega arith) in
      (fits, omega (arith, ints))

-- what a number of so many bits stands for: itself, or below zero by what is missing to 2 ^ width
pub by_sign : (width : ℕ) → 0 < width → (x : ℕ) (z : ℤ) → x < 2 ^ width → signed_of width x ≡ z → ((x < 2 ^ (width - 1)) × (z ≡ pos x)) ⊎ ((2 ^ (width - 1) ≤ x) × (z ≡ negsuc (2 ^ width - suc x)))
by_sign width some x z fits e =
    ⊎_elim
    (λ lo. let v = low_value width some x lo in inl (lo, sym e ∙ v))
    (λ hi. let v = high_value width some x fits hi in inr (hi, omega (arith, ints)))
    (cases_lt x (2 ^ (width - 1)))

-- it is even if the number is
even_bits : (width : ℕ) → 0 < width → (x : ℕ) (z : ℤ) → x < 2 ^ width → signed_of width x ≡ z → Divides 2 z → x % 2 ≡ 0
even_bits width some x z fits e even =
    let two = doubled width some in
    ⊎_elim
    (λ l. rw l.1 at even)
    (λ h. let above : suc (2 ^ width - suc x) % 2 ≡ 0 = rw h.1 at even in omega arith)
    (by_sign width some x z fits e)

pub even_cut : (r : Result ℕ Refusal) (width : ℕ) (z : ℤ) → 0 < width → Divides 2 z → MatchResult r (λ x. (x < 2 ^ width) × (signed_of width x ≡ z) × Within width z) (λ e. (number_of e ≡ 10) × (Within width z → ⊥)) → MatchResult r (λ x. (x < 2 ^ width) × (signed_of width x ≡ z) × Within width z × (x % 2 ≡ 0) × Divides 2 z) (λ e. (number_of e ≡ 10) × (Within width z × Divides 2 z → ⊥))
even_cut (Ok x) width z some even h = (h.0, h.1, h.2, even_bits width some x z h.0 h.1 even, even)
even_cut (Err e) width z some even h = (h.0, λ p. h.1 p.0)

pub below_s : (w : ℕ) → imm_s w < 2 ^ 12
below_s w = omega arith

pub below_b : (w : ℕ) → imm_b w < 2 ^ 13
below_b w = omega arith

pub below_j : (w : ℕ) → imm_j w < 2 ^ 21
below_j w = omega arith

-- the bits of the immediate, from the instruction: imm are those of the format f in a word
pub same_offset : (f : Format) (width : ℕ) (imm : ℕ → ℕ) → 0 < width → ((w : ℕ) → imm w < 2 ^ width) → ((w : ℕ) → immediate_of f w ≡ signed_of width (imm w)) → (i : Instruction) (v x : ℕ) → i ≡ in_format f i.mnemonic v → x < 2 ^ width → signed_of width x ≡ i.immediate → imm v ≡ x
same_offset f width imm some below is i v x whole fits value =
    same_number width some (imm v) x (below v) fits (sym (is v) ∙ sym (ap (λ (j : Instruction). j.immediate) whole) ∙ sym value)

-- an instruction is known by its operands
pub same_operands : (f : Format) (i : Instruction) (w : ℕ) → i.rd ≡ rd_of f w → i.rs1 ≡ rs1_of f w → i.rs2 ≡ rs2_of f w → i.immediate ≡ immediate_of f w → i ≡ in_format f i.mnemonic w
same_operands f i w a b c d = rw (← a, ← b, ← c, ← d) refl

-- a format with two registers and an immediate of `width` bits, imm, in the places of rd and funct7
pub record TwoSources (f : Format) (width : ℕ) (imm : ℕ → ℕ) : Type 0 where
  some : 0 < width
  below : (w : ℕ) → imm w < 2 ^ width
  value : (w : ℕ) → immediate_of f w ≡ signed_of width (imm w)
  rd : (w : ℕ) → rd_of f w ≡ 0
  rs1 : (w : ℕ) → rs1_of f w ≡ field 15 5 w
  rs2 : (w : ℕ) → rs2_of f w ≡ field 20 5 w
  agrees : (r : Row) (o c g : ℕ) → o ≡ r.opcode → c ≡ r.funct3 → Agrees f r o c g
  codes : (r : Row) (o c g : ℕ) → Agrees f r o c g → (o ≡ r.opcode) × (c ≡ r.funct3)

pub stores : TwoSources Store 12 imm_s
stores = record { some = search rules; below = below_s; value = λ _. refl; rd = λ _. refl; rs1 = λ _. refl; rs2 = λ _. refl; agrees = λ _ _ _ _ a b. (a, b); codes = λ _ _ _ _ h. h }

pub branches : TwoSources Branch 13 imm_b
branches = record { some = search rules; below = below_b; value = λ _. refl; rd = λ _. refl; rs1 = λ _. refl; rs2 = λ _. refl; agrees = λ _ _ _ _ a b. (a, b); codes = λ _ _ _ _ h. h }

module _ (f : Format) (width : ℕ) (imm : ℕ → ℕ) (form : TwoSources f width imm) (r : Row) (i : Instruction) (x rd rs2 funct7 w : ℕ) (made : Filled r rd i.rs1 rs2 funct7 w) (second : rs2 ≡ i.rs2) (word : w < 2 ^ 32) (fits : x < 2 ^ width) (value : signed_of width x ≡ i.immediate) where
  -- w has the instruction i, and no other word has
  pub one_word : ((v : ℕ) → imm v ≡ x → (field 7 5 v ≡ rd) × (field 25 7 v ≡ funct7)) → (field 7 5 w ≡ rd → field 25 7 w ≡ funct7 → imm w ≡ x) → i.rd ≡ 0 → Only f r i (Ok w) × Carries f r i w
  one_word there back none = (
    λ v k.
        let slots = there v (same_offset f width imm form.some form.below form.value i v x k.operands fits value) in
        let codes = form.codes r _ _ _ k.codes in
        let rs1 : i.rs1 ≡ field 15 5 v = ap (λ (j : Instruction). j.rs1) k.operands ∙ form.rs1 v in
        let rs2 : i.rs2 ≡ field 20 5 v = ap (λ (j : Instruction). j.rs2) k.operands ∙ form.rs2 v in
        ap Ok (same_word w v word k.word (made.opcode ∙ sym codes.0) (made.rd ∙ sym slots.0) (made.funct3 ∙ sym codes.1) (made.rs1 ∙ rs1) (made.rs2 ∙ second ∙ rs2) (made.funct7 ∙ sym slots.1)),
    record {
      word = word;
      codes = form.agrees r _ _ _ made.opcode made.funct3;
      operands = same_operands f i w (none ∙ sym (form.rd w)) (sym made.rs1 ∙ sym (form.rs1 w)) (sym (made.rs2 ∙ second) ∙ sym (form.rs2 w)) (sym value ∙ sym (ap (signed_of width) (back made.rd made.funct7)) ∙ sym (form.value w));
    },
  )
