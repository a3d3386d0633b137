-- What the reader answers is what the bytes are.
use Rattle.std.proofs.Common.{◌≡◌, ℕ, zero, suc, ◌+◌, ◌*◌, ◌/◌, ◌%◌, ◌^◌, ◌<◌, ◌≤◌, Bool, true, false, eqb, leb, List, [], ◌∷◌, ◌++◌, length, get_or, map, drop, Ok, Err, Result, sym, refl, ap, ◌∙◌, subst, arith}
use Rattle.std.specs.List.{range_with_len}
use Rattle.std.proofs.lemmas.List.{drop_more}
use Rattle.std.proofs.lemmas.Bool.{le-leb, false≢true}
use Rattle.std.proofs.lemmas.Bool.Decides.{nat_tests}
use Rattle.benchfile.specs.declared.refusals.Refusal.{Refusal}
use Rattle.benchfile.specs.declared.refusals.Refusal.TheVariants.{NotBenchFile, Version, Header, Limit}
use Rattle.benchfile.specs.Format.{Contents, and_then, checked, clear, file_of, fits, half_at, judged, laid_out, marked, provided, word_at}
use Rattle.benchfile.specs.Header.{bytes_of}
use Rattle.benchfile.specs.Laws.{Begins, Holds, Judges, mark, mark_and_version}
use Rattle.benchfile.specs.Laws.Judges.{accepted, past_the_limit, misshapen, other_version, unmarked}
use Rattle.benchfile.proofs.Headers.{gets_the_verdict}

-- the first bytes one by one, and the rest
front : (bytes : List ℕ) (n i e : ℕ) → e ≡ i + n → e ≤ length bytes → drop i bytes ≡ map (λ k. get_or bytes k 0) (range_with_len i n) ++ drop e bytes
front bytes zero i e at room = ap (λ (k : ℕ). drop k bytes) (omega arith)
front bytes (suc n) i e at room = drop_more bytes i 0 (omega arith) ∙ ap (λ (t : List ℕ). get_or bytes i 0 ∷ t) (front bytes n (i + 1) e (omega arith) (omega arith))

-- four bytes are those of the number that they make
four : (a b c d : ℕ) → a < 256 → b < 256 → c < 256 → d < 256 → a ∷ b ∷ c ∷ d ∷ [] ≡ bytes_of (a + b * 256 + c * 65536 + d * 16777216)
four a b c d ha hb hc hd =
    let n = a + b * 256 + c * 65536 + d * 16777216 in
    let e0 : n % 256 ≡ a = omega arith in
    let e1 : n / 256 % 256 ≡ b = omega arith in
    let e2 : n / 65536 % 256 ≡ c = omega arith in
    let e3 : n / 16777216 % 256 ≡ d = omega arith in
    rw (e0, e1, e2, e3) refl

begins_marked : (bytes : List ℕ) → Begins mark bytes → marked bytes ≡ true
begins_marked bytes b =
    let e0 : get_or bytes 0 0 ≡ 82 = ap (λ (x : List ℕ). get_or x 0 0) b.same in
    let e1 : get_or bytes 1 0 ≡ 86 = ap (λ (x : List ℕ). get_or x 1 0) b.same in
    let e2 : get_or bytes 2 0 ≡ 66 = ap (λ (x : List ℕ). get_or x 2 0) b.same in
    rw (le-leb 24 (length bytes) b.room, e0, e1, e2) refl

-- those that have the mark and this version are marked, and have the version 1
begins_version : (bytes : List ℕ) → Begins mark_and_version bytes → eqb (half_at bytes 3) 1 ≡ true
begins_version bytes b =
    let e3 : get_or bytes 3 0 ≡ 1 = ap (λ (x : List ℕ). get_or x 3 0) b.same in
    let e4 : get_or bytes 4 0 ≡ 0 = ap (λ (x : List ℕ). get_or x 4 0) b.same in
    rw (e3, e4) refl

-- a header's bytes, number by number
numbers : (s b n l s' b' n' l' image : List ℕ) → s ≡ s' → b ≡ b' → n ≡ n' → l ≡ l' →
    82 ∷ 86 ∷ 66 ∷ 1 ∷ 0 ∷ 0 ∷ 0 ∷ 0 ∷ (s ++ (b ++ (n ++ (l ++ image)))) ≡ 82 ∷ 86 ∷ 66 ∷ 1 ∷ 0 ∷ 0 ∷ 0 ∷ 0 ∷ (s' ++ (b' ++ (n' ++ (l' ++ image))))
numbers s b n l s' b' n' l' image es eb en el = rw (es, eb, en, el) refl

abbrev Small : List ℕ → Type 0
Small bytes = (k : ℕ) → get_or bytes k 0 < 256

-- the mark as numbers
record Marks (bytes : List ℕ) : Type 0 where
  pub room : 24 ≤ length bytes
  pub r : get_or bytes 0 0 ≡ 82
  pub v : get_or bytes 1 0 ≡ 86
  pub b : get_or bytes 2 0 ≡ 66

marks : (bytes : List ℕ) → marked bytes ≡ true → Marks bytes
marks bytes e = record { room = grind (arith, nat_tests); r = grind (arith, nat_tests); v = grind (arith, nat_tests); b = grind (arith, nat_tests) }

marked_begins : (bytes : List ℕ) → Marks bytes → Begins mark bytes
marked_begins bytes m = record { room = m.room; rest = drop 3 bytes; same = front bytes 3 0 3 refl (omega (arith, m.room)) ∙ rw (m.r, m.v, m.b) refl }

version_begins : (bytes : List ℕ) → Small bytes → Marks bytes → eqb (half_at bytes 3) 1 ≡ true → Begins mark_and_version bytes
version_begins bytes small m v =
    let e : get_or bytes 3 0 + get_or bytes 4 0 * 256 ≡ 1 = grind (arith, nat_tests) in
    let e3 : get_or bytes 3 0 ≡ 1 = omega (arith, e, small 3, small 4) in
    let e4 : get_or bytes 4 0 ≡ 0 = omega (arith, e, small 3, small 4) in
    record { room = m.room; rest = drop 5 bytes; same = front bytes 5 0 5 refl (omega (arith, m.room)) ∙ rw (m.r, m.v, m.b, e3, e4) refl }

-- bytes that are contents get the verdict on their limit
held : (bytes : List ℕ) (f : Contents) → Holds bytes f → file_of bytes ≡ provided (leb f.limit 1000000) Limit (Ok f)
held bytes f h =
    let size : length f.image < 2 ^ 32 = omega (arith, h.within.0) in
    let fit : fits f.base (length f.image) f.image ≡ true = grind (arith, nat_tests, h.words.0, h.words.1, h.within.0, h.within.1) in
    ap file_of h.same ∙ gets_the_verdict f.start f.base (length f.image) f.limit h.numbers.0 h.numbers.1 size h.numbers.2 f.image ∙ rw fit refl

no_header : (b : Bool) (f : Contents) → provided b Limit (Ok f) ≡ Err Header → ⊥
no_header true f e = cc
no_header false f e = cc

-- bytes that are refused for their header are no contents
none : (bytes : List ℕ) → file_of bytes ≡ Err Header → (f : Contents) → Holds bytes f → ⊥
none bytes e f h = no_header (leb f.limit 1000000) f (sym (held bytes f h) ∙ e)

word_small : (bytes : List ℕ) (i : ℕ) → Small bytes → word_at bytes i < 2 ^ 32
word_small bytes i small = omega (arith, small i, small (i + 1), small (i + 2), small (i + 3))

abbrev four_at : List ℕ → ℕ → List ℕ
four_at bytes i = get_or bytes i 0 ∷ get_or bytes (i + 1) 0 ∷ get_or bytes (i + 2) 0 ∷ get_or bytes (i + 3) 0 ∷ []

word_four : (bytes : List ℕ) (i : ℕ) → Small bytes → four_at bytes i ≡ bytes_of (word_at bytes i)
word_four bytes i small = four _ _ _ _ (small i) (small (i + 1)) (small (i + 2)) (small (i + 3))

abbrev said : List ℕ → Contents
said bytes = record { start = word_at bytes 8; base = word_at bytes 12; limit = word_at bytes 20; image = drop 24 bytes }

-- bytes that pass each check but the limit's are what they say
holds : (bytes : List ℕ) → Small bytes → Marks bytes → eqb (half_at bytes 3) 1 ≡ true → clear (get_or bytes 5 0 ∷ get_or bytes 6 0 ∷ get_or bytes 7 0 ∷ []) ≡ true →
    fits (word_at bytes 12) (word_at bytes 16) (drop 24 bytes) ≡ true → Holds bytes (said bytes)
holds bytes small m v z fit =
    let e : get_or bytes 3 0 + get_or bytes 4 0 * 256 ≡ 1 = grind (arith, nat_tests) in
    let e3 : get_or bytes 3 0 ≡ 1 = omega (arith, e, small 3, small 4) in
    let e4 : get_or bytes 4 0 ≡ 0 = omega (arith, e, small 3, small 4) in
    let e5 : get_or bytes 5 0 ≡ 0 = grind (arith, nat_tests) in
    let e6 : get_or bytes 6 0 ≡ 0 = grind (arith, nat_tests) in
    let e7 : get_or bytes 7 0 ≡ 0 = grind (arith, nat_tests) in
    let size : word_at bytes 16 ≡ length (drop 24 bytes) = grind (arith, nat_tests) in
    record {
      numbers = (word_small bytes 8 small, word_small bytes 12 small, word_small bytes 20 small);
      same = front bytes 24 0 24 refl m.room ∙ rw (m.r, m.v, m.b, e3, e4, e5, e6, e7)
          (numbers _ _ _ _ _ _ _ _ (drop 24 bytes) (word_four bytes 8 small) (word_four bytes 12 small) (word_four bytes 16 small ∙ ap bytes_of size) (word_four bytes 20 small));
      words = (grind (arith, nat_tests), grind (arith, nat_tests));
      within = (grind (arith, nat_tests), grind (arith, nat_tests));
    }

by_limit : (bytes : List ℕ) (b : Bool) → leb (word_at bytes 20) 1000000 ≡ b → Holds bytes (said bytes) → Judges bytes (provided b Limit (Ok (said bytes)))
by_limit bytes true e h = accepted h (grind (arith, nat_tests))
by_limit bytes false e h = past_the_limit h (grind (arith, nat_tests))

-- the checks one after another, by what each comes to
by_fits : (bytes : List ℕ) (b : Bool) → Small bytes → Marks bytes → eqb (half_at bytes 3) 1 ≡ true → clear (laid_out bytes).reserved ≡ true →
    fits (word_at bytes 12) (word_at bytes 16) (drop 24 bytes) ≡ b → Begins mark_and_version bytes →
    (provided b Header (provided (leb (word_at bytes 20) 1000000) Limit (Ok (said bytes))) ≡ Err Header → (f : Contents) → Holds bytes f → ⊥) →
    Judges bytes (provided b Header (provided (leb (word_at bytes 20) 1000000) Limit (Ok (said bytes))))
by_fits bytes true small m v z fit begins nothing = by_limit bytes _ refl (holds bytes small m v z fit)
by_fits bytes false small m v z fit begins nothing = misshapen begins (nothing refl)

by_zeros : (bytes : List ℕ) (b : Bool) → Small bytes → Marks bytes → eqb (half_at bytes 3) 1 ≡ true → clear (laid_out bytes).reserved ≡ b → Begins mark_and_version bytes →
    (provided b Header (judged (word_at bytes 8) (word_at bytes 12) (word_at bytes 16) (word_at bytes 20) (drop 24 bytes)) ≡ Err Header → (f : Contents) → Holds bytes f → ⊥) →
    Judges bytes (provided b Header (judged (word_at bytes 8) (word_at bytes 12) (word_at bytes 16) (word_at bytes 20) (drop 24 bytes)))
by_zeros bytes true small m v z begins nothing = by_fits bytes _ small m v z refl begins nothing
by_zeros bytes false small m v z begins nothing = misshapen begins (nothing refl)

by_version : (bytes : List ℕ) (b : Bool) → Small bytes → Marks bytes → eqb (half_at bytes 3) 1 ≡ b →
    (checked (laid_out bytes) ≡ Err Header → (f : Contents) → Holds bytes f → ⊥) →
    Judges bytes (provided b Version (provided (clear (laid_out bytes).reserved) Header (judged (word_at bytes 8) (word_at bytes 12) (word_at bytes 16) (word_at bytes 20) (drop 24 bytes))))
by_version bytes true small m v nothing = by_zeros bytes _ small m v refl (version_begins bytes small m v) (λ e. nothing (rw v e))
by_version bytes false small m v nothing = other_version (marked_begins bytes m) (λ b. false≢true (sym v ∙ begins_version bytes b))

by_mark : (bytes : List ℕ) (b : Bool) → Small bytes → marked bytes ≡ b → Judges bytes (and_then (provided b NotBenchFile (Ok (laid_out bytes))) checked)
by_mark bytes true small e = by_version bytes _ small (marks bytes e) refl (λ refused. none bytes (ap (λ (b : Bool). and_then (provided b NotBenchFile (Ok (laid_out bytes))) checked) e ∙ refused))
by_mark bytes false small e = unmarked (λ b. false≢true (sym e ∙ begins_marked bytes b))

pub judges : (bytes : List ℕ) (r : Result Contents Refusal) → Small bytes → r ≡ file_of bytes → Judges bytes r
judges bytes r small e = subst (Judges bytes) (sym e) (by_mark bytes _ small refl)
