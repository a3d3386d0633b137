-- What fits its format, and the words that carry it.
use Rattle.std.proofs.Common.{◌≡◌, ◌<◌, eqb, pos, negsuc, refl, sym, ap, arith, Ok, Err, Result, MatchResult}
use Rattle.std.specs.Ordering.{int_eq}
use Rattle.isa.specs.declared.instruction.Instruction.{Instruction}
use Rattle.isa.specs.declared.mnemonic.Format.TheVariants.{Immediate, Register}
use Rattle.isa.specs.declared.mnemonic.Mnemonic.TheVariants.{Add, Addi, Lui}
use Rattle.isa.specs.declared.refusal.Refusal.{Refusal}
use Rattle.isa.specs.declared.refusal.Refusal.TheVariants.{DoesNotFit}
use Rattle.isa.specs.Fitting.{Fits}
use Rattle.isa.specs.Refusals.{number_of}
use Rattle.isa.specs.Table.{row_of}
use Rattle.encode.proofs.Unique.{same_word}
use Rattle.encode.specs.Words.{Carries, Filled, FilledUpper, Only, Within, Written}
use Rattle.witnesses.proofs.Apart.{apart}
use Rattle.witnesses.specs.Reading.{add, addi, beq, jal, lui, slli, sw}

fits : Fits (addi (pos 2047))
fits = search arith

fits_not : Fits (addi (pos 2048)) → ⊥
fits_not f = grind arith

pub fit : Fits (addi (pos 2047)) × (Fits (addi (pos 2048)) → ⊥)
fit = (fits, fits_not)

pub came_back : (r : Result Instruction Refusal) → MatchResult r (λ j. (j ≡ addi (pos 2047)) × Fits (addi (pos 2047))) (λ e. (number_of e ≡ 10) × (Fits (addi (pos 2047)) → ⊥)) →
    r ≡ Ok (addi (pos 2047))
came_back (Ok j) m = rw m.0 refl
came_back (Err e) m = absurd (m.1 fits)

no_register : Fits (record add { rd = 32 }) → ⊥
no_register f = let l : 32 < 32 = f.0 in omega arith

pub registers : Fits add × (Fits (record add { rd = 32 }) → ⊥) × (Fits (record add { immediate = pos 1 }) → ⊥)
registers = (search arith, no_register, λ f. apart (λ z. int_eq z (pos 1)) (pos 1) (pos 0) refl refl f.3)

pub stores : Fits (sw (negsuc 2047)) × (Fits (sw (negsuc 2048)) → ⊥)
stores = (search arith, λ f. grind arith)

pub branches : Fits (beq (pos 4094)) × (Fits (beq (pos 4096)) → ⊥) × (Fits (beq (pos 4093)) → ⊥)
branches = (search arith, λ f. grind arith, λ f. apart (λ n. eqb n 1) 1 0 refl refl f.3.1)

pub jumps : Fits (jal (negsuc 1048575)) × (Fits (jal (pos 1048576)) → ⊥)
jumps = (search arith, λ f. grind arith)

pub shifts : Fits (slli (pos 31)) × (Fits (slli (pos 32)) → ⊥)
shifts = (search arith, λ f. grind arith)

pub uppers : Fits (lui (pos 4096)) × (Fits (lui (pos 4095)) → ⊥)
uppers = (search arith, λ f. apart (λ n. eqb n 4095) 4095 0 refl refl f.3.1)

carries : Carries Immediate (row_of Addi) (addi (pos 5)) 0x00500093
carries = record { word = omega arith; codes = (refl, refl); operands = refl }

pub carried : Carries Immediate (row_of Addi) (addi (pos 5)) 0x00500093 × (Carries Immediate (row_of Addi) (addi (pos 5)) 0x00600093 → ⊥)
carried = (carries, λ c. apart (λ i. int_eq i.immediate (pos 5)) _ _ refl refl c.operands)

pub word_written : Written Immediate (row_of Addi) (addi (pos 5)) (Ok 0x00500093) × (Written Immediate (row_of Addi) (addi (pos 5)) (Err DoesNotFit) → ⊥)
word_written = ((carries, search arith), λ w. w.1 (search arith))

pub twelve_bits : Within 12 (pos 2047) × (Within 12 (pos 2048) → ⊥)
twelve_bits = (search arith, λ w. grind arith)

sum_carries : Carries Register (row_of Add) add 0x003100B3
sum_carries = record { word = omega arith; codes = (refl, refl, refl); operands = refl }

-- the six fields of a word that carries it are settled
only_sum : Only Register (row_of Add) add (Ok 0x003100B3)
only_sum v c =
    ap Ok
    (same_word 0x003100B3 v (omega arith) c.word (sym c.codes.0) (ap (λ i. i.rd) c.operands) (sym c.codes.1) (ap (λ i. i.rs1) c.operands) (ap (λ i. i.rs2) c.operands) (sym c.codes.2))

pub only_word : Only Register (row_of Add) add (Ok 0x003100B3) × (Only Register (row_of Add) add (Err DoesNotFit) → ⊥)
only_word = (only_sum, λ o. grind (arith, o 0x003100B3 sum_carries))

pub fields : Filled (row_of Add) 1 2 3 0 0x003100B3 × (Filled (row_of Add) 1 2 4 0 0x003100B3 → ⊥)
fields = (record { opcode = refl; rd = refl; funct3 = refl; rs1 = refl; rs2 = refl; funct7 = refl }, λ f. apart (λ n. eqb n 3) 3 4 refl refl f.rs2)

pub upper_fields : FilledUpper (row_of Lui) 1 0x12345 0x123450B7 × (FilledUpper (row_of Lui) 1 0x12346 0x123450B7 → ⊥)
upper_fields = (record { opcode = refl; rd = refl; upper = refl }, λ f. apart (λ n. eqb n 0x12345) 0x12345 0x12346 refl refl f.upper)
