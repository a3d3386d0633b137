-- A test that antt computes over the whole table, and the lemma that an example which passes it holds.
-- Assumes nothing.
use Rattle.std.proofs.Common.{◌≡◌, ℕ, Bool, true, not, ◌&&◌, eqb, List, [], ◌∷◌, ℤ, refl, rules}
use Rattle.std.proofs.lemmas.Bool.{and_parts, eqb-true, not-true, both_ways}
use Rattle.std.proofs.lemmas.Bool.Decides.{Decides-int_eq}
use Rattle.bits.specs.Field.{field}
use Rattle.isa.specs.declared.instruction.Instruction.{Instruction}
use Rattle.isa.specs.declared.mnemonic.Format.{Format}
use Rattle.isa.specs.Decoding.{selects, mnemonics}
use Rattle.isa.specs.Table.{row_of}
use Rattle.isa.proofs.Selecting.{agrees_holds, holds_agrees, every}
use Rattle.std.specs.List.{list_all}
use Rattle.std.specs.Ordering.{int_eq}
use Rattle.vectors.specs.Values.{table}
use Rattle.isa.specs.Reading.{rd_of, rs1_of, rs2_of, in_format}
use Rattle.isa.specs.Immediates.{immediate_of}
use Rattle.alu.specs.Operations.{operated}
use Rattle.alu.specs.Loads.{loaded_of}
use Rattle.alu.specs.Stores.{mask_of}
use Rattle.vectors.specs.Examples.{Example, reads, refused, gives, loads, writes, Holds, Every}

int_eq_true : (y z : ℤ) → int_eq y z ≡ true → y ≡ z
int_eq_true y z h = search (rules, Decides-int_eq)

-- the operands of i are those that the format f has in w
abbrev operands : Format → Instruction → ℕ → Bool
operands f i w = eqb i.rd (rd_of f w) && (eqb i.rs1 (rs1_of f w) && (eqb i.rs2 (rs2_of f w) && int_eq i.immediate (immediate_of f w)))

operands_true : (f : Format) (i : Instruction) (w : ℕ) → operands f i w ≡ true → i ≡ in_format f i.mnemonic w
operands_true f i w h =
    let a = and_parts (eqb i.rd (rd_of f w)) _ h in
    let b = and_parts (eqb i.rs1 (rs1_of f w)) _ a.1 in
    let c = and_parts (eqb i.rs2 (rs2_of f w)) _ b.1 in
    let rd = eqb-true i.rd (rd_of f w) a.0 in
    let rs1 = eqb-true i.rs1 (rs1_of f w) b.0 in
    let rs2 = eqb-true i.rs2 (rs2_of f w) c.0 in
    let immediate = int_eq_true i.immediate (immediate_of f w) c.1 in
    rw (← rd, ← rs1, ← rs2, ← immediate) refl

abbrev passes : Example → Bool
passes (reads w i) = selects i.mnemonic w && operands (row_of i.mnemonic).format i w
passes (refused w) = list_all (λ m. not (selects m w)) mnemonics
passes (gives o a b r) = eqb (operated o a b) r
passes (loads l w a r) = eqb (loaded_of l w a) r
passes (writes s a m) = eqb (mask_of s a) m

holds : (e : Example) → passes e ≡ true → Holds e
holds (reads w i) h =
    let f = (row_of i.mnemonic).format in
    let p = and_parts (selects i.mnemonic w) (operands f i w) h in
    record {
      selected = agrees_holds f (row_of i.mnemonic) (field 0 7 w) (field 12 3 w) (field 25 7 w) p.0;
      operands = operands_true f i w p.1;
    }
holds (refused w) h = λ i r.
    let m = i.mnemonic in
    let agreed = holds_agrees (row_of m).format (row_of m) (field 0 7 w) (field 12 3 w) (field 25 7 w) r.selected in
    both_ways (selects m w) (not-true (selects m w) (every (λ n. not (selects n w)) h m)) agreed
holds (gives o a b r) h = eqb-true (operated o a b) r h
holds (loads l w a r) h = eqb-true (loaded_of l w a) r h
holds (writes s a m) h = eqb-true (mask_of s a) m h

pub every_holds : (es : List Example) → list_all passes es ≡ true → Every es
every_holds [] h = tt
every_holds (e ∷ es) h = let p = and_parts (passes e) (list_all passes es) h in (holds e p.0, every_holds es p.1)

pub every_value : Every table
every_value = every_holds table refl
