-- The header's laws, for any four numbers below 2^32.
use Rattle.std.proofs.Common.{◌≡◌, ℕ, ◌+◌, ◌*◌, ◌/◌, ◌%◌, ◌^◌, ◌<◌, true, leb, List, ◌++◌, length, mod-eq_of_lt, arith}
use native.Mathlib.Nat.{div-div-eq-div-mul}
use Rattle.std.proofs.lemmas.Bool.Decides.{nat_tests}
use Rattle.benchfile.specs.Header.{header_of}
use Rattle.benchfile.specs.Laws.{GetsTheVerdict, ReadsBack}

-- a number is what its four bytes say
word_of_bytes : (n : ℕ) → n < 2 ^ 32 →
    n % 256 + n / 256 % 256 * 256 + n / 65536 % 256 * 65536 + n / 16777216 % 256 * 16777216 ≡ n
word_of_bytes n h =
    let top : n / 16777216 < 256 = omega arith in
    omega (arith, mod-eq_of_lt top, div-div-eq-div-mul n 256 256, div-div-eq-div-mul n 65536 256)

long_enough : (start base size limit : ℕ) (image : List ℕ) →
    leb 24 (length (header_of start base size limit ++ image)) ≡ true
long_enough start base size limit image = grind (arith, nat_tests)

pub gets_the_verdict : (start base size limit : ℕ) → start < 2 ^ 32 → base < 2 ^ 32 → size < 2 ^ 32 → limit < 2 ^ 32 →
    GetsTheVerdict (header_of start base size limit) start base size limit
gets_the_verdict start base size limit s b n l image =
    rw (
      long_enough start base size limit image,
      word_of_bytes start s,
      word_of_bytes base b,
      word_of_bytes size n,
      word_of_bytes limit l,
    )

pub reads_back_lem : (start base size limit : ℕ) → start < 2 ^ 32 → base < 2 ^ 32 → size < 2 ^ 32 → limit < 2 ^ 32 →
    ReadsBack (header_of start base size limit) start base limit
reads_back_lem start base size limit s b n l image file accepted =
    let verdict = gets_the_verdict start base size limit s b n l image in grind (arith, nat_tests)

-- the same of bytes that are such a header
pub verdict_of : (bytes : List ℕ) (start base size limit : ℕ) → bytes ≡ header_of start base size limit →
    start < 2 ^ 32 → base < 2 ^ 32 → size < 2 ^ 32 → limit < 2 ^ 32 → GetsTheVerdict bytes start base size limit
verdict_of bytes start base size limit same s b n l image = rw same (gets_the_verdict start base size limit s b n l image)
