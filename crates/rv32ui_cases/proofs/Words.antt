-- The encoder's answer is the word that reads as the instruction.
use Rattle.std.proofs.Common.{◌≡◌, ℕ, zero, suc, ◌^◌, ◌<◌, Bool, true, false, ◌&&◌, Ok, Err, Result, MatchResult, sym, refl, ap, ◌∙◌, ◌≤◌, ⊎_elim, arith}
use Rattle.std.specs.Prelude.{◌==◌, if◌then◌else◌}
use Rattle.std.specs.Result.{result_unwrap_or}
use Rattle.std.proofs.lemmas.Bool.{cases_lt, false≢true}
use Rattle.std.proofs.lemmas.Bool.Decides.{Decides-eqb, Decides-int_eq}
use Rattle.bits.specs.Field.{field}
use Rattle.isa.specs.Fitting.{Fits}
use Rattle.isa.specs.Reading.{Reads, rd_of, rs1_of, rs2_of}
use Rattle.isa.specs.Immediates.{immediate_of}
use Rattle.isa.specs.Decoding.{selects}
use Rattle.isa.specs.Refusals.{number_of}
use Rattle.isa.specs.Table.{row_of}
use Rattle.isa.specs.declared.instruction.Instruction.{Instruction}
use Rattle.isa.specs.declared.refusal.Refusal.{Refusal}
use Rattle.isa.proofs.Selecting.{agrees_holds, holds_agrees}
use Rattle.rv32ui_cases.specs.Words.{highest_below, operands_are, reads_as, word_of}

choose : (b : Bool) (x y z : ℕ) → (b ≡ true → x ≡ z) → (b ≡ false → y ≡ z) → (if b then x else y) ≡ z
choose true x y z t f = t refl
choose false x y z t f = f refl

-- a search that can find one number only finds it
found : (n : ℕ) (test : ℕ → Bool) (w : ℕ) → w < n → test w ≡ true → ((v : ℕ) → v < n → test v ≡ true → v ≡ w) → highest_below n test ≡ w
unfolding highest_below
found zero test w low here one = absurd (omega (arith, low))
found (suc n) test w low here one =
    choose (test n) n (highest_below n test) w (λ e. one n (omega arith) e) (λ e. ⊎_elim
    (λ (below : w < n). found n test w below here (λ v l p. one v (omega arith) p))
    (λ (not_below : n ≤ w). let same : n ≡ w = omega arith in absurd (false≢true (sym e ∙ ap test same ∙ here)))
    (cases_lt w n))

-- a search that can find none gives 0
not_found : (n : ℕ) (test : ℕ → Bool) → ((v : ℕ) → v < n → test v ≡ true → ⊥) → highest_below n test ≡ 0
unfolding highest_below
not_found zero test none = refl
not_found (suc n) test none = choose (test n) n (highest_below n test) 0 (λ e. absurd (none n (omega arith) e)) (λ e. not_found n test (λ v l p. none v (omega arith) p))

both : (a b : Bool) → a && b ≡ true → (a ≡ true) × (b ≡ true)
both true b e = (refl, e)
both false b e = absurd (false≢true e)

-- the test says what the relation says
test_reads : (i : Instruction) (w : ℕ) → reads_as i w ≡ true → Reads w i
test_reads i w e =
    let f = (row_of i.mnemonic).format in
    let parts = both (selects i.mnemonic w) (operands_are f i w) e in
    let rd = both (rd_of f w == i.rd) _ parts.1 in
    let rs1 = both (rs1_of f w == i.rs1) _ rd.1 in
    let rs2 = both (rs2_of f w == i.rs2) _ rs1.1 in
    let a : rd_of f w ≡ i.rd = (Decides-eqb _ _).0 rd.0 in
    let b : rs1_of f w ≡ i.rs1 = (Decides-eqb _ _).0 rs1.0 in
    let c : rs2_of f w ≡ i.rs2 = (Decides-eqb _ _).0 rs2.0 in
    let d : immediate_of f w ≡ i.immediate = (Decides-int_eq _ _).0 rs2.1 in
    record {
      selected = agrees_holds f (row_of i.mnemonic) (field 0 7 w) (field 12 3 w) (field 25 7 w) parts.0;
      operands = rw (a, b, c, d) refl;
    }

reads_test : (i : Instruction) (w : ℕ) → Reads w i → reads_as i w ≡ true
reads_test i w r =
    let f = (row_of i.mnemonic).format in
    let s = holds_agrees f (row_of i.mnemonic) (field 0 7 w) (field 12 3 w) (field 25 7 w) r.selected in
    let a = (Decides-eqb _ _).1 (sym (ap (λ (j : Instruction). j.rd) r.operands)) in
    let b = (Decides-eqb _ _).1 (sym (ap (λ (j : Instruction). j.rs1) r.operands)) in
    let c = (Decides-eqb _ _).1 (sym (ap (λ (j : Instruction). j.rs2) r.operands)) in
    let d = (Decides-int_eq _ _).1 (sym (ap (λ (j : Instruction). j.immediate) r.operands)) in
    rw (s, a, b, c, d) refl

ok_same : (r : Result ℕ Refusal) (v w : ℕ) → r ≡ Ok w → r ≡ Ok v → v ≡ w
ok_same r v w e f = cc

ok_err : (r : Result ℕ Refusal) (v : ℕ) (e : Refusal) → r ≡ Err e → r ≡ Ok v → ⊥
ok_err r v e h f = cc

pub word_is : (i : Instruction) (r : Result ℕ Refusal) → ((v : ℕ) → v < 2 ^ 32 → Reads v i → r ≡ Ok v) →
    MatchResult r (λ w. (w < 2 ^ 32) × Reads w i × Fits i) (λ e. (number_of e ≡ 10) × (Fits i → ⊥)) → result_unwrap_or r 0 ≡ word_of i
unfolding word_of
word_is i (Ok w) only writes = sym (found (2 ^ 32) (reads_as i) w writes.0 (reads_test i w writes.1) (λ v low e. ok_same (Ok w) v w refl (only v low (test_reads i v e))))
word_is i (Err e) only writes = sym (not_found (2 ^ 32) (reads_as i) (λ v low p. ok_err (Err e) v e refl (only v low (test_reads i v p))))
