-- What a memory holds once a program is written into it.
use Rattle.std.proofs.Common.{◌≡◌, ℕ, ◌+◌, ◌-◌, ◌*◌, ◌^◌, ◌<◌, ◌≤◌, Bool, true, false, ◌&&◌, cond, leb, ltb, List, ◌++◌, length, get_or, replicate, sym, refl, ap, ◌∙◌, ⊎_elim, length-append, arith}
use mathlib.Core.Path.{fun_ext}
use Rattle.std.proofs.lemmas.List.{get_or_append_left, get_or-append_right, get_or_past, get_or-replicate, length-replicate}
use Rattle.std.proofs.lemmas.Bool.{cases_lt}
use Rattle.std.proofs.lemmas.Bool.Decides.{nat_tests}
use Rattle.memory.specs.Lanes.{merged}
use Rattle.memory.specs.Meaning.{patched, written}
use Rattle.memory.specs.declared.kind.Kind.{Kind}
use Rattle.memory.specs.declared.kind.Kind.TheVariants.{Absent, Fixed, Open}
use Rattle.std.specs.Prelude.{◌==◌}
use Rattle.layers.specs.Joined.{joined}
use Rattle.layers.specs.Placed.{placed_kinds, placed_words}
use Rattle.layers.specs.Shield.{shield_kinds}
use Rattle.stores.specs.Bank.{bank_kind, bank_word, within}
use Rattle.stores.specs.Layout.{kind_in_layout, whole, word_in}
use Rattle.rv32ui_cases.specs.Data.{data_of}
use Rattle.rv32ui_cases.specs.Memories.{bare_kinds, bare_words, is_open, loaded, laid, laid_first, with_whole}
use Rattle.rv32ui_cases.specs.Runs.{run_over, seen_over}
use Rattle.rv32ui_cases.specs.declared.program.Program.{Program}
use Rattle.rv32ui_cases.specs.declared.running.Calls.{Calls}
use Rattle.rv32ui_cases.specs.declared.running.Over.TheVariants.{ByteImage, Stack}
use Rattle.rv32ui_cases.specs.declared.running.Seen.{Seen}

-- a whole word takes the place of another
whole_word : (v w : ℕ) → v < 2 ^ 32 → merged 15 v w ≡ v
whole_word v w small = omega arith

whole_at : (c : Kind) (j k v o : ℕ) → v < 2 ^ 32 → cond (j == k) (written 15 v c o) o ≡ cond (j == k && is_open c) v o
whole_at Absent j k v o small = grind (arith, nat_tests)
whole_at Fixed j k v o small = grind (arith, nat_tests)
whole_at Open j k v o small = rw (whole_word v o small) (grind (arith, nat_tests))

pub whole_put : (K : ℕ → Kind) (W V : ℕ → ℕ) (k v : ℕ) → v < 2 ^ 32 → ((j : ℕ) → V j ≡ patched K W k v 15 j) → V ≡ with_whole K k v W
whole_put K W V k v small after = fun_ext (λ j. after j ∙ whole_at (K j) j k v (W j) small)

-- a word whose number is j, open or not, after one more word of the list is written
one_at : (b : Bool) (k n j w x o : ℕ) → (j ≡ k + n → x ≡ w) →
    cond (j == k + n && b) w (cond (leb k j && (ltb j (k + n) && b)) x o) ≡ cond (leb k j && (ltb j (k + (n + 1)) && b)) x o
one_at true k n j w x o same = grind (arith, nat_tests)
one_at false k n j w x o same = grind (arith, nat_tests)

none_at : (c : Kind) (k j x o : ℕ) → o ≡ cond (leb k j && (ltb j (k + 0) && is_open c)) x o
none_at c k j x o = grind (arith, nat_tests)

pub none_lie : (K : ℕ → Kind) (k : ℕ) (list : List ℕ) (W : ℕ → ℕ) → W ≡ laid_first 0 K k list W
none_lie K k list W = fun_ext (λ j. none_at (K j) k j (get_or list (j - k) 0) (W j))

pub one_more_lies : (K : ℕ → Kind) (W : ℕ → ℕ) (list : List ℕ) (k n at w : ℕ) → at ≡ k + n → n < length list → w ≡ get_or list n 0 →
    with_whole K at w (laid_first n K k list W) ≡ laid_first (n + 1) K k list W
one_more_lies K W list k n at w place within item =
    rw place (fun_ext (λ j. one_at (is_open (K j)) k n j w (get_or list (j - k) 0) (W j) (λ e. let d : j - k ≡ n = omega arith in ap (λ (i : ℕ). get_or list i 0) d ∙ sym item)))

-- word j of two lists one behind the other
bare_plain : (j n x y g : ℕ) → n ≤ 10 → (j < 64 → g ≡ x) → (64 ≤ j → g ≡ y) → (64 + n ≤ j → g ≡ 0) → (b : Bool) → b ≡ ltb j 128 →
    cond (leb 64 j && (ltb j (64 + n) && b)) y (cond (leb 0 j && (ltb j 64 && b)) x 0) ≡ cond (ltb j 128) g 0
bare_plain j n x y g few left right past true is = grind (arith, nat_tests)
bare_plain j n x y g few left right past false is = grind (arith, nat_tests)

open_bare : (j : ℕ) → is_open (bare_kinds j) ≡ ltb j 128
open_bare j = grind (arith, nat_tests)

bare_at : (words behind : List ℕ) (W : ℕ → ℕ) (j : ℕ) → length words ≡ 64 → length behind ≤ 10 → W j ≡ 0 →
    laid bare_kinds 64 behind (laid bare_kinds 0 words W) j ≡ cond (ltb j 128) (get_or (words ++ behind) j 0) 0
bare_at words behind W j sixty_four few zero_at =
    let all : length (words ++ behind) ≡ 64 + length behind = simp length-append (omega (arith, sixty_four)) in
    let from_0 : j - 0 ≡ j = omega arith in
    rw (sixty_four, zero_at, from_0) (bare_plain j (length behind) (get_or words j 0) (get_or behind (j - 64) 0) (get_or (words ++ behind) j 0) few
    (λ h. get_or_append_left words behind 0 j (omega (arith, sixty_four)))
    (λ h. get_or-append_right words behind 64 j 0 sixty_four h)
    (λ h. get_or_past (words ++ behind) j 0 (omega (arith, all)))
    (is_open (bare_kinds j)) (open_bare j))

bare_is : (p : Program) (W : ℕ → ℕ) → length p.words ≡ 64 → length (data_of p.mnemonic) ≤ 10 → ((j : ℕ) → W j ≡ 0) → loaded p bare_kinds W ≡ bare_words p
bare_is p W sixty_four few zeros = fun_ext (λ j. bare_at p.words (data_of p.mnemonic) W j sixty_four few (zeros j))

-- bytes and words that are zero
zero_or : (xs : List ℕ) (n i : ℕ) → xs ≡ replicate n 0 → get_or xs i 0 ≡ 0
zero_or xs n i e = rw e (⊎_elim (λ (h : i < n). get_or-replicate n i 0 0 h) (λ (h : n ≤ i). get_or_past (replicate n 0) i 0 (omega (arith, h, length-replicate {A = ℕ} n 0))) (cases_lt i n))

cond_zero : (b : Bool) (w : ℕ) → w ≡ 0 → cond b w 0 ≡ 0
cond_zero true w e = e
cond_zero false w e = refl

zero_bytes : (bytes : List ℕ) (n k : ℕ) → bytes ≡ replicate n 0 → word_in bytes k ≡ 0
zero_bytes bytes n k e =
    let at : (i : ℕ) → get_or bytes i 0 ≡ 0 = λ i. zero_or bytes n i e in
    cond_zero (whole (length bytes) k) _ (rw (at (4 * k), at (4 * k + 1), at (4 * k + 2), at (4 * k + 3)) refl)

zero_words : (words : List ℕ) (n k : ℕ) → words ≡ replicate n 0 → bank_word words k ≡ 0
zero_words words n k e = cond_zero (within (length words) k) _ (rw (zero_or words n k e) refl)

image_bare : (bytes : List ℕ) (k : ℕ) → length bytes ≡ 512 → kind_in_layout Open bytes k ≡ bare_kinds k
image_bare bytes k e = rw e (grind (arith, nat_tests))

image_kinds : (bytes : List ℕ) → bytes ≡ replicate 512 0 → kind_in_layout Open bytes ≡ bare_kinds
image_kinds bytes e = fun_ext (λ k. image_bare bytes k (ap length e ∙ length-replicate {A = ℕ} 512 0))

pub in_both : (f : (ℕ → Kind) → (ℕ → ℕ) → Seen) {k l : ℕ → Kind} {v w : ℕ → ℕ} → k ≡ l → v ≡ w → f k v ≡ f l w
in_both f {k} {l} {v} {w} e g = ap (λ (x : ℕ → Kind). f x v) e ∙ ap (λ (y : ℕ → ℕ). f l y) g

pub image_holds : (p : Program) (c : Calls) (bytes : List ℕ) (K : ℕ → Kind) (W : ℕ → ℕ) (r : Seen) → length p.words ≡ 64 → length (data_of p.mnemonic) ≤ 10 → bytes ≡ replicate 512 0 →
    K ≡ kind_in_layout Open bytes → W ≡ loaded p (kind_in_layout Open bytes) (word_in bytes) → r ≡ run_over p c 0 K W → r ≡ seen_over p ByteImage c
image_holds p c bytes K W r sixty_four few e kinds words shown =
    let same = image_kinds bytes e in
    shown ∙ in_both (λ (k : ℕ → Kind) (w : ℕ → ℕ). run_over p c 0 k w) (kinds ∙ same) (words ∙ ap (λ (k : ℕ → Kind). loaded p k (word_in bytes)) same ∙ bare_is p (word_in bytes) sixty_four few (λ k. zero_bytes bytes 512 k e))

joined_bare : (bytes words : List ℕ) (k : ℕ) → length bytes ≡ 260 → length words ≡ 128 → joined 65 (kind_in_layout Open bytes) (bank_kind words) k ≡ bare_kinds k
joined_bare bytes words k e f = rw (e, f) (grind (arith, nat_tests))

cond_zeros : (b : Bool) (v w : ℕ) → v ≡ 0 → w ≡ 0 → cond b v w ≡ 0
cond_zeros true v w e f = e
cond_zeros false v w e f = f

pub stack_holds : (p : Program) (c : Calls) (bytes words : List ℕ) (r : Seen) → length p.words ≡ 64 → length (data_of p.mnemonic) ≤ 10 → bytes ≡ replicate 260 0 → words ≡ replicate 128 0 →
    r ≡ run_over p c (2 ^ 31) (shield_kinds 0 (2 ^ 29 + 64) (placed_kinds (2 ^ 29) (joined 65 (kind_in_layout Open bytes) (bank_kind words)))) (placed_words (2 ^ 29) (loaded p (joined 65 (kind_in_layout Open bytes) (bank_kind words)) (joined 65 (word_in bytes) (bank_word words)))) →
    r ≡ seen_over p Stack c
stack_holds p c bytes words r sixty_four few e f shown =
    let same : joined 65 (kind_in_layout Open bytes) (bank_kind words) ≡ bare_kinds = fun_ext (λ k. joined_bare bytes words k (ap length e ∙ length-replicate {A = ℕ} 260 0) (ap length f ∙ length-replicate {A = ℕ} 128 0)) in
    shown ∙ in_both (λ (k : ℕ → Kind) (w : ℕ → ℕ). run_over p c (2 ^ 31) (shield_kinds 0 (2 ^ 29 + 64) (placed_kinds (2 ^ 29) k)) (placed_words (2 ^ 29) w)) same
    (ap (λ (k : ℕ → Kind). loaded p k (joined 65 (word_in bytes) (bank_word words))) same ∙ bare_is p (joined 65 (word_in bytes) (bank_word words)) sixty_four few (λ k. cond_zeros (ltb k 65) _ _ (zero_bytes bytes 260 k e) (zero_words words 128 k f)))
