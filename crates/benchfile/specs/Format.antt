-- The format: what any list of bytes says as a bench file, or why it is refused.
use Rattle.std.specs.Prelude.{ℕ, ◌+◌, ◌*◌, ◌%◌, ◌^◌, Bool, cond, ◌&&◌, List, [], ◌∷◌, length, drop, Ok, Err, Result, ◌==◌, nat_le, slice_index}
use Rattle.benchfile.specs.declared.refusals.Refusal.{Refusal}
use Rattle.benchfile.specs.declared.refusals.Refusal.TheVariants.{NotBenchFile, Version, Header, Limit}

-- what a file says
pub record Contents : Type 0 where
  pub start : ℕ
  pub base : ℕ
  pub limit : ℕ
  pub image : List ℕ

-- the fields of a file, before any is judged; size is the image length that the header gives
pub record Layout : Type 0 where
  pub version : ℕ
  pub reserved : List ℕ
  pub start : ℕ
  pub base : ℕ
  pub size : ℕ
  pub limit : ℕ
  pub image : List ℕ

-- the answer if the test holds, and the refusal if not
abbrev pub provided : {A : Type 0} → Bool → Refusal → Result A Refusal → Result A Refusal
provided test refusal answer = cond test answer (Err refusal)

-- the number in the two bytes from place i on, the lowest byte first
abbrev pub half_at : List ℕ → ℕ → ℕ
half_at bytes i = slice_index bytes i + slice_index bytes (i + 1) * 256

-- the number in the four bytes from place i on, the lowest byte first
abbrev pub word_at : List ℕ → ℕ → ℕ
word_at bytes i =
    slice_index bytes i + slice_index bytes (i + 1) * 256 + slice_index bytes (i + 2) * 65536 + slice_index bytes (i + 3) * 16777216

-- there are 24 bytes or more, and the first three are RVB
abbrev pub marked : List ℕ → Bool
marked bytes =
    nat_le 24 (length bytes) && slice_index bytes 0 == 82 && slice_index bytes 1 == 86 && slice_index bytes 2 == 66

-- where each field stands: the image is all that follows the 24 bytes of the header
abbrev pub laid_out : List ℕ → Layout
laid_out bytes = record {
  version = half_at bytes 3;
  reserved = slice_index bytes 5 ∷ slice_index bytes 6 ∷ slice_index bytes 7 ∷ [];
  start = word_at bytes 8;
  base = word_at bytes 12;
  size = word_at bytes 16;
  limit = word_at bytes 20;
  image = drop 24 bytes;
}

-- the fields of a file that has the mark
abbrev pub fields_of : List ℕ → Result Layout Refusal
fields_of bytes = provided (marked bytes) NotBenchFile (Ok (laid_out bytes))

-- the three bytes are zero
abbrev pub clear : List ℕ → Bool
clear bytes = slice_index bytes 0 == 0 && slice_index bytes 1 == 0 && slice_index bytes 2 == 0

-- base and size are multiples of four; size is at most 32,768 and the number of bytes in the image;
-- the image ends at 2^32 or below
abbrev pub fits : ℕ → ℕ → List ℕ → Bool
fits base size image =
    (base % 4 == 0) && size % 4 == 0 && nat_le size 32768 && size == length image && nat_le (base + size) (2 ^ 32)

-- the verdict on the four numbers and the image
abbrev pub judged : ℕ → ℕ → ℕ → ℕ → List ℕ → Result Contents Refusal
judged start base size limit image =
    provided (fits base size image) Header
    (provided (nat_le limit 1000000) Limit
    (Ok (record { start = start; base = base; limit = limit; image = image })))

-- the verdict on all the fields
abbrev pub checked : Layout → Result Contents Refusal
checked f =
    provided (f.version == 1) Version
    (provided (clear f.reserved) Header
    (judged f.start f.base f.size f.limit f.image))

-- the next step's answer; a refusal stays as it is
abbrev pub and_then : {A B : Type 0} → Result A Refusal → (A → Result B Refusal) → Result B Refusal
and_then (Ok a) next = next a
and_then (Err refusal) next = Err refusal

-- what the bytes of a file say, or why they are refused
abbrev pub file_of : List ℕ → Result Contents Refusal
file_of bytes = and_then (fields_of bytes) checked
