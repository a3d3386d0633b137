-- The search of the table against the relation of words and instructions.
use Rattle.std.proofs.Common.{◌≡◌, ℕ, Bool, true, not, rules, List, [], ◌∷◌, Some, None, Option, sym, refl, ap, ◌∙◌, subst, arith, Ok, Err, Result, MatchResult}
use Rattle.std.specs.Result.{result_ok}
use Rattle.isa.specs.declared.refusal.Refusal.{Refusal}
use Rattle.isa.specs.Refusals.{number_of}
use Rattle.std.proofs.lemmas.Bool.{not-true, both_ways}
use Rattle.std.proofs.lemmas.Bool.Decides.{nat_tests}
use Rattle.std.specs.List.{find, list_all}
use Rattle.isa.proofs.Selecting.{agrees_holds, holds_agrees, every}
use Rattle.bits.specs.Field.{field}
use Rattle.isa.specs.declared.instruction.Instruction.{Instruction}
use Rattle.isa.specs.declared.mnemonic.Mnemonic.{Mnemonic}
use Rattle.isa.specs.Decoding.{selects, mnemonics, chosen, read_as, reading_of}
use Rattle.isa.specs.Reading.{Reads, in_format}
use Rattle.isa.specs.Table.{row_of}
use Rattle.actions.specs.Actions.{class_of, action_by, FoundAsRead}

-- what a search finds passes the test, and where it finds nothing, nothing passes
found_passes : (p : Mnemonic → Bool) (ms : List Mnemonic) (m : Mnemonic) → find p ms ≡ Some m → p m ≡ true
found_passes p [] m e = cc
found_passes p (n ∷ ms) m e = grind (arith, nat_tests, found_passes p ms m)

none_passes : (p : Mnemonic → Bool) (ms : List Mnemonic) → find p ms ≡ None → list_all (λ m. not (p m)) ms ≡ true
none_passes p [] e = refl
none_passes p (n ∷ ms) e = grind (arith, nat_tests, none_passes p ms)

-- an instruction does what its class says
by_class : (m : Mnemonic) (i : Instruction) → class_of (action_by m i) ≡ (row_of m).class
by_class m i = search rules

module _ (w : ℕ) where
  found_reads : (x : Option Mnemonic) → chosen mnemonics w ≡ x → (i : Instruction) → read_as x w ≡ Some i → Reads w i
  found_reads None e i h = cc
  found_reads (Some m) e i h =
      let same : in_format (row_of m).format m w ≡ i = cc in
      subst (Reads w) same (record {
        selected = agrees_holds (row_of m).format (row_of m) (field 0 7 w) (field 12 3 w) (field 25 7 w) (found_passes (λ n. selects n w) mnemonics m e);
        operands = refl;
      })

  readings : (i : Instruction) → reading_of w ≡ Some i → Reads w i
  unfolding reading_of
  readings i h = found_reads (chosen mnemonics w) refl i h

  found_none : (x : Option Mnemonic) → chosen mnemonics w ≡ x → read_as x w ≡ None → (i : Instruction) → Reads w i → ⊥
  found_none (Some m) e h i r = cc
  found_none None e h i r =
      let m = i.mnemonic in
      let no : not (selects m w) ≡ true = every (λ n. not (selects n w)) (none_passes (λ n. selects n w) mnemonics e) m in
      let is : selects m w ≡ true = holds_agrees (row_of m).format (row_of m) (field 0 7 w) (field 12 3 w) (field 25 7 w) r.selected in
      both_ways (selects m w) (not-true (selects m w) no) is

  none_reads : reading_of w ≡ None → (i : Instruction) → Reads w i → ⊥
  unfolding reading_of
  none_reads h i r = found_none (chosen mnemonics w) refl h i r

  -- a word that reads as j, and as nothing else
  found_by : (j : Instruction) → Reads w j → ((i : Instruction) → Reads w i → i ≡ j) → (x : Option Instruction) → reading_of w ≡ x → reading_of w ≡ Some j
  found_by j r only None e = absurd (none_reads e j r)
  found_by j r only (Some i) e = e ∙ ap Some (only i (readings i e))

  pub found_as_read : (j : Instruction) → Reads w j → ((i : Instruction) → Reads w i → i ≡ j) → (reading_of w ≡ Some j) × FoundAsRead w
  found_as_read j r only =
      let here = found_by j r only (reading_of w) refl in
      (here, record { found = λ i h. here ∙ ap Some (sym (only i h)); reads = readings; class = λ i. by_class i.mnemonic i })

  -- a word that reads as nothing
  not_found : ((i : Instruction) → Reads w i → ⊥) → (x : Option Instruction) → reading_of w ≡ x → reading_of w ≡ None
  not_found no-reading None e = e
  not_found no-reading (Some i) e = absurd (no-reading i (readings i e))

  pub not_read : ((i : Instruction) → Reads w i → ⊥) → (reading_of w ≡ None) × FoundAsRead w
  not_read no-reading = (not_found no-reading (reading_of w) refl, record { found = λ i h. absurd (no-reading i h); reads = readings; class = λ i. by_class i.mnemonic i })

  -- what the decoder answers is what the search finds
  pub found_word : (r : Result Instruction Refusal) → ((i : Instruction) → Reads w i → r ≡ Ok i) → MatchResult r (λ i. Reads w i) (λ e. (number_of e ≡ 3) × ((i : Instruction) → Reads w i → ⊥)) → result_ok r ≡ reading_of w
  found_word (Ok j) only h = sym (found_as_read j h (λ i r. let e = only i r in cc)).0
  found_word (Err e) only h = sym (not_read h.1).0

  pub law_of : (r : Result Instruction Refusal) → ((i : Instruction) → Reads w i → r ≡ Ok i) → MatchResult r (λ i. Reads w i) (λ e. (number_of e ≡ 3) × ((i : Instruction) → Reads w i → ⊥)) → FoundAsRead w
  law_of (Ok j) only h = (found_as_read j h (λ i r. let e = only i r in cc)).1
  law_of (Err e) only h = (not_read h.1).1
