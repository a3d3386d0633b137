-- Cells in a row, two memories side by side, and what no write changes.
use Rattle.std.proofs.Common.{◌≡◌, ℕ, true, false, eqb, List, [], ◌∷◌, refl}
use Rattle.layers.specs.Wrote.{Wrote}
use Rattle.memory.specs.Rest.{Rest, lent, shared, over, beside, nowhere}
use Rattle.stores.specs.Bank.{within, placed_at, with_word, spare}
use Rattle.stores.specs.ByteLaws.{byte_laws}
use Rattle.stores.specs.Cells.{CellLaws}
use Rattle.stores.specs.Layout.{whole, word_at, with_lanes, outside}
use Rattle.stores.specs.WordLaws.{word_laws}
use Rattle.witnesses.proofs.Apart.{apart}
use Rattle.witnesses.specs.Memories.{one_open, zeros, with_seven, four_of}

pub bytes : CellLaws whole word_at with_lanes outside × (CellLaws whole word_at (λ (bs : List ℕ) (k v mask : ℕ). bs) outside → ⊥)
bytes = (byte_laws, λ laws. apart (λ n. eqb n 0) 0 1 refl refl (laws.this_word (0 ∷ 0 ∷ 0 ∷ 0 ∷ []) 0 1 15 refl))

pub words : CellLaws within placed_at with_word spare × (CellLaws within placed_at (λ (ws : List ℕ) (k v mask : ℕ). ws) spare → ⊥)
words = (word_laws, λ laws. apart (λ n. eqb n 0) 0 1 refl refl (laws.this_word (0 ∷ []) 0 1 15 refl))

pub reached : Wrote one_open zeros (four_of 0) true 0 7 0b1111 one_open with_seven (four_of 0) × (Wrote one_open zeros (four_of 0) true 0 7 0b1111 one_open zeros (four_of 0) → ⊥)
reached = (record { kept = refl; after = λ j. refl; rests = refl }, λ w. apart (λ n. eqb n 0) 0 7 refl refl (w.after 0))

pub not_reached : Wrote one_open zeros (four_of 0) false 0 7 0b1111 one_open zeros (four_of 0) × (Wrote one_open zeros (four_of 0) false 0 7 0b1111 one_open with_seven (four_of 0) → ⊥)
not_reached = (record { kept = refl; after = λ j. refl; rests = refl }, λ w. apart (λ n. eqb n 7) 7 0 refl refl (w.after 0))

abbrev owner : Rest → ℕ
owner (lent name n s) = name
owner (shared place n s) = 0
owner (over f t K w r) = 0
owner (beside n l r) = 0

abbrev size : Rest → ℕ
size (lent name n s) = n
size (shared place n s) = n
size (over f t K w r) = 0
size (beside n l r) = 0

abbrev spares : Rest → ℕ → ℕ
spares (lent name n s) = s
spares (shared place n s) = s
spares (over f t K w r) = nowhere
spares (beside n l r) = nowhere

pub other_owner : four_of 0 ≡ four_of 1 → ⊥
other_owner e = apart (λ r. eqb (owner r) 0) _ _ refl refl e

pub other_length : four_of 0 ≡ lent 0 5 nowhere → ⊥
other_length e = apart (λ r. eqb (size r) 4) _ _ refl refl e

pub other_spare : four_of 0 ≡ lent 0 4 with_seven → ⊥
other_spare e = apart (λ r. eqb (spares r 0) 0) _ _ refl refl e
