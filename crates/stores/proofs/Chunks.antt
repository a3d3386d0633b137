-- The bytes of a word are one of the chunks of four.
-- Assumes nothing.
use Rattle.std.proofs.Common.{◌≡◌, ℕ, zero, suc, ◌+◌, ◌*◌, ◌/◌, ◌<◌, List, [], ◌∷◌, length, get_or, take, drop, refl, ap, ◌∙◌, arith}
use Rattle.std.proofs.Math.Seq.{drop-drop, get_or-drop}
use Rattle.std.proofs.lemmas.Grind.{common_steps}
use Rattle.std.specs.Simd.{first_chunks}

chunk : (n k : ℕ) (xs d : List ℕ) → k < n → get_or (first_chunks 4 n xs) k d ≡ take 4 (drop (4 * k) xs)
chunk zero k xs d l = let no : ⊥ = omega arith in absurd no
chunk (suc n) zero xs d l = refl
chunk (suc n) (suc k) xs d l =
    let e : 4 + 4 * k ≡ 4 * suc k = omega arith in
    chunk n k (drop 4 xs) d (omega arith) ∙ ap (take 4) (drop-drop (4 * k) 4 xs) ∙ ap (λ (m : ℕ). take 4 (drop m xs)) e

first_four : (xs : List ℕ) → 3 < length xs → take 4 xs ≡ get_or xs 0 0 ∷ get_or xs 1 0 ∷ get_or xs 2 0 ∷ get_or xs 3 0 ∷ []
first_four (a ∷ b ∷ c ∷ d ∷ xs) l = refl
first_four [] l = let no : ⊥ = omega arith in absurd no
first_four (a ∷ []) l = let no : ⊥ = omega arith in absurd no
first_four (a ∷ b ∷ []) l = let no : ⊥ = omega arith in absurd no
first_four (a ∷ b ∷ c ∷ []) l = let no : ⊥ = omega arith in absurd no

pub word_chunk : (bs : List ℕ) (k : ℕ) (chunks : List (List ℕ)) → chunks ≡ first_chunks 4 (length bs / 4) bs → 4 * k + 3 < length bs → get_or chunks k [] ≡ get_or bs (4 * k) 0 ∷ get_or bs (4 * k + 1) 0 ∷ get_or bs (4 * k + 2) 0 ∷ get_or bs (4 * k + 3) 0 ∷ []
word_chunk bs k chunks same there =
    let e : get_or (first_chunks 4 (length bs / 4) bs) k [] ≡ take 4 (drop (4 * k) bs) = chunk (length bs / 4) k bs [] (omega arith) in
    let f : take 4 (drop (4 * k) bs) ≡ get_or (drop (4 * k) bs) 0 0 ∷ get_or (drop (4 * k) bs) 1 0 ∷ get_or (drop (4 * k) bs) 2 0 ∷ get_or (drop (4 * k) bs) 3 0 ∷ [] = first_four (drop (4 * k) bs) (grind (arith, common_steps)) in
    rw same (e ∙ f ∙ grind (arith, get_or-drop))
