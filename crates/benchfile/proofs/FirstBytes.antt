-- The first bytes of an input decide what the reader makes of it.
-- Assumes nothing.
use Rattle.std.proofs.Common.{◌≡◌, ℕ, ◌+◌, ◌*◌, ◌<◌, ◌≤◌, Bool, true, false, ◌&&◌, eqb, List, length, get_or, take, drop, Ok, Err, Result, sym, refl, ap, ◌∙◌, ⊎_elim, arith, lit<, length-drop, length-take-le, take_all}
use Rattle.std.proofs.lemmas.List.{get_or-take}
use Rattle.std.proofs.lemmas.Bool.{cases_lt, le-leb}
use Rattle.std.proofs.lemmas.Bool.Decides.{nat_tests}
use Rattle.benchfile.specs.declared.refusals.Refusal.{Refusal}
use Rattle.benchfile.specs.declared.refusals.Refusal.TheVariants.{NotBenchFile, Version, Header}
use Rattle.benchfile.specs.Format.{Contents, Layout, and_then, checked, file_of, fits, laid_out, provided, word_at}
use Rattle.benchfile.specs.Laws.{Decides}

-- an image longer than any is refused, whatever the numbers are
too_long : (base size : ℕ) (image : List ℕ) → 32768 < length image → fits base size image ≡ false
too_long base size image h = grind (arith, nat_tests)

-- a header whose numbers do not fit is refused for its version or for its numbers
judged_misfit : (l : Layout) → fits l.base l.size l.image ≡ false → checked l ≡ provided (eqb l.version 1) Version (Err Header)
judged_misfit l h = grind (arith, nat_tests)

taken_apart : (marks : Bool) (l : Layout) → fits l.base l.size l.image ≡ false → and_then (provided marks NotBenchFile (Ok l)) checked ≡ provided marks NotBenchFile (provided (eqb l.version 1) Version (Err Header))
taken_apart true l h = judged_misfit l h
taken_apart false l h = refl

-- what an input longer than any file gets, by its first five bytes
abbrev refusal : ℕ → ℕ → ℕ → ℕ → ℕ → Result Contents Refusal
refusal a b c d e = provided (true && eqb a 82 && eqb b 86 && eqb c 66) NotBenchFile (provided (eqb (d + e * 256) 1) Version (Err Header))

long : (bytes : List ℕ) → 32792 < length bytes → file_of bytes ≡ refusal (get_or bytes 0 0) (get_or bytes 1 0) (get_or bytes 2 0) (get_or bytes 3 0) (get_or bytes 4 0)
long bytes h =
    let enough : 24 ≤ length bytes = omega arith in
    let most : 32768 < length (drop 24 bytes) = simp length-drop (omega arith) in
    let misfit = too_long (word_at bytes 12) (word_at bytes 16) (drop 24 bytes) most in
    rw (le-leb 24 (length bytes) enough) (taken_apart (true && eqb (get_or bytes 0 0) 82 && eqb (get_or bytes 1 0) 86 && eqb (get_or bytes 2 0) 66) (laid_out bytes) misfit)

-- its front gets the same, if that is longer than any file too
cut : (n : ℕ) (bytes : List ℕ) → 32792 < n → n < length bytes → file_of (take n bytes) ≡ file_of bytes
cut n bytes many less =
    let same = length-take-le n bytes (omega arith) in
    let front : 32792 < length (take n bytes) = omega arith in
    let whole : 32792 < length bytes = omega arith in
    let byte : (i : ℕ) → i < 5 → get_or (take n bytes) i 0 ≡ get_or bytes i 0 = λ i few. get_or-take n bytes i 0 (omega arith) in
    long (take n bytes) front
    ∙ rw (byte 0 (lit< tt), byte 1 (lit< tt), byte 2 (lit< tt), byte 3 (lit< tt), byte 4 (lit< tt)) (sym (long bytes whole))

pub decides : (n : ℕ) → 32792 < n → Decides n
decides n many bytes = ⊎_elim (cut n bytes many) (λ h. ap file_of (take_all n bytes h)) (cases_lt n (length bytes))

pub enough : Decides 32793
enough = decides 32793 (lit< tt)
