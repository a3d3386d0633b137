-- What the reader makes of a header.
use Rattle.std.proofs.Common.{◌≡◌, ℕ, ◌≤◌, Bool, true, false, eqb, List, [], ◌∷◌, ◌++◌, length, get_or, Ok, Err, Result, refl, sym, ap, ◌∙◌, subst, arith}
use Rattle.std.specs.Prelude.{replicate}
use Rattle.benchfile.specs.Format.{Contents, judged}
use Rattle.benchfile.specs.Header.{header_of}
use Rattle.benchfile.specs.Laws.{Begins, Decides, GetsTheVerdict, Holds, Judges, ReadsBack, WholeWords, accepted, past_the_limit, misshapen, other_version, unmarked, mark}
use Rattle.benchfile.specs.Refusals.{number_of}
use Rattle.benchfile.specs.declared.refusals.Refusal.{Refusal}
use Rattle.benchfile.specs.declared.refusals.Refusal.TheVariants.{Header, NotBenchFile, Version}
use Rattle.witnesses.proofs.Apart.{apart}

abbrev limit_in : Result Contents Refusal → ℕ
limit_in (Ok f) = f.limit
limit_in (Err e) = 0

pub other_verdict : (bytes : List ℕ) → GetsTheVerdict bytes 0 0 0 10 → GetsTheVerdict bytes 0 0 0 11 → ⊥
other_verdict bytes v w = apart (λ r. eqb (limit_in r) 10) (judged 0 0 0 10 []) (judged 0 0 0 11 []) refl refl (sym (v []) ∙ w [])

pub other_back : (bytes : List ℕ) → GetsTheVerdict bytes 0 0 0 10 → ReadsBack bytes 0 0 11 → ⊥
other_back bytes v r =
    let file : Contents = record { start = 0; base = 0; limit = 10; image = [] } in
    apart (λ n. eqb n 10) 10 11 refl refl (ap (λ f. f.limit) (r [] file (v [])))

pub header_undecided : Decides 24 → ⊥
header_undecided d = apart (λ r. eqb (limit_in r) 10) _ _ refl refl (d (header_of 0 0 0 10 ++ (0 ∷ [])))

too_far : WholeWords (Ok (record { start = 0; base = 0xFFFFFFFC; limit = 10; image = replicate 8 0 })) → ⊥
too_far w = let l : 4294967300 ≤ 4294967296 = w.2 in omega arith

pub whole : WholeWords (Ok (record { start = 0; base = 4; limit = 10; image = replicate 4 0 })) × (WholeWords (Ok (record { start = 0; base = 2; limit = 10; image = replicate 4 0 })) → ⊥) × (WholeWords (Ok (record { start = 0; base = 4; limit = 10; image = replicate 3 0 })) → ⊥) × (WholeWords (Ok (record { start = 0; base = 0xFFFFFFFC; limit = 10; image = replicate 8 0 })) → ⊥)
whole = (
  (refl, refl, omega arith),
  λ w. apart (λ n. eqb n 2) 2 0 refl refl w.0,
  λ w. apart (λ n. eqb n 3) 3 0 refl refl w.1,
  too_far,
)

-- a file of no image, with this limit
abbrev no_image : ℕ → Contents
no_image limit = record { start = 0; base = 0; limit = limit; image = [] }

here : Holds (header_of 0 0 0 10) (no_image 10)
here = record { numbers = (omega arith, omega arith, omega arith); same = refl; words = (refl, refl); within = (omega arith, omega arith) }

not_eleven : Holds (header_of 0 0 0 10) (no_image 11) → ⊥
not_eleven h = apart (λ l. eqb (get_or l 20 0) 10) _ _ refl refl h.same

pub held : Holds (header_of 0 0 0 10) (no_image 10) × (Holds (header_of 0 0 0 10) (no_image 11) → ⊥)
held = (here, not_eleven)

no_room : Begins mark [] → ⊥
no_room b = let room : 24 ≤ 0 = b.room in omega arith

pub begun : Begins mark (header_of 0 0 0 10) × (Begins mark [] → ⊥) × (Begins mark (replicate 24 0) → ⊥)
begun = (
  record { room = omega arith; rest = 1 ∷ replicate 14 0 ++ (0 ∷ 0 ∷ 10 ∷ 0 ∷ 0 ∷ 0 ∷ []); same = refl },
  no_room,
  λ b. apart (λ l. eqb (get_or l 0 0) 0) _ _ refl refl b.same,
)

-- the number of an answer's refusal, and what is accepted
abbrev code : Result Contents Refusal → ℕ
code (Ok f) = 0
code (Err e) = number_of e

abbrev contents_or : Contents → Result Contents Refusal → Contents
contents_or g (Ok f) = f
contents_or g (Err e) = g

-- what is accepted holds
holds_if : (bytes : List ℕ) (r : Result Contents Refusal) → Judges bytes r → (f : Contents) → r ≡ Ok f → Holds bytes f
holds_if bytes r (accepted h l) f e = subst (Holds bytes) (ap (contents_or f) e) h
holds_if bytes r (past_the_limit h l) f e = absurd (apart (λ x. eqb (code x) 7) _ _ refl refl e)
holds_if bytes r (misshapen b n) f e = absurd (apart (λ x. eqb (code x) 13) _ _ refl refl e)
holds_if bytes r (other_version b n) f e = absurd (apart (λ x. eqb (code x) 12) _ _ refl refl e)
holds_if bytes r (unmarked n) f e = absurd (apart (λ x. eqb (code x) 11) _ _ refl refl e)

-- nothing holds where the rest of the header is blamed
nothing_holds : (bytes : List ℕ) (r : Result Contents Refusal) → Judges bytes r → r ≡ Err Header → (f : Contents) → Holds bytes f → ⊥
nothing_holds bytes r (accepted h l) e f g = apart (λ x. eqb (code x) 0) _ _ refl refl e
nothing_holds bytes r (past_the_limit h l) e f g = apart (λ x. eqb (code x) 7) _ _ refl refl e
nothing_holds bytes r (misshapen b n) e f g = n f g
nothing_holds bytes r (other_version b n) e f g = apart (λ x. eqb (code x) 12) _ _ refl refl e
nothing_holds bytes r (unmarked n) e f g = apart (λ x. eqb (code x) 11) _ _ refl refl e

-- the mark is there where the version is blamed
marked_there : (bytes : List ℕ) (r : Result Contents Refusal) → Judges bytes r → r ≡ Err Version → Begins mark bytes
marked_there bytes r (accepted h l) e = absurd (apart (λ x. eqb (code x) 0) _ _ refl refl e)
marked_there bytes r (past_the_limit h l) e = absurd (apart (λ x. eqb (code x) 7) _ _ refl refl e)
marked_there bytes r (misshapen b n) e = absurd (apart (λ x. eqb (code x) 13) _ _ refl refl e)
marked_there bytes r (other_version b n) e = b
marked_there bytes r (unmarked n) e = absurd (apart (λ x. eqb (code x) 11) _ _ refl refl e)

pub accepted_as : Judges (header_of 0 0 0 10) (Ok (no_image 10)) × (Judges (header_of 0 0 0 10) (Ok (no_image 11)) → ⊥) × (Judges (header_of 0 0 0 10) (Err Header) → ⊥)
accepted_as = (
  accepted here (omega arith),
  λ j. not_eleven (holds_if (header_of 0 0 0 10) (Ok (no_image 11)) j (no_image 11) refl),
  λ j. nothing_holds (header_of 0 0 0 10) (Err Header) j refl (no_image 10) here,
)

pub unmarked_for : Judges [] (Err NotBenchFile) × (Judges [] (Err Version) → ⊥)
unmarked_for = (unmarked no_room, λ j. no_room (marked_there [] (Err Version) j refl))
