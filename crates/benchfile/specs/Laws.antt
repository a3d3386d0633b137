-- What a bench file is, which bytes are refused for what, and what the reader makes of bytes that begin with a header.
use Rattle.std.specs.Prelude.{◌≡◌, ℕ, ◌+◌, ◌%◌, ◌^◌, ◌<◌, ◌≤◌, List, [], ◌∷◌, ◌++◌, length, take, IfOk, Ok, Err, Result}
use Rattle.benchfile.specs.declared.refusals.Refusal.{Refusal}
use Rattle.benchfile.specs.declared.refusals.Refusal.TheVariants.{NotBenchFile, Version, Header, Limit}
use Rattle.benchfile.specs.Format.{Contents, judged, file_of}
use Rattle.benchfile.specs.Header.{header_of}

-- there is room for a header, and the bytes begin with these
pub record Begins (start bytes : List ℕ) : Type 0 where
  pub room : 24 ≤ length bytes
  pub rest : List ℕ
  pub same : bytes ≡ start ++ rest

-- RVB, and RVB with the version 1 behind it
abbrev pub mark : List ℕ
mark = 82 ∷ 86 ∷ 66 ∷ []

abbrev pub mark_and_version : List ℕ
mark_and_version = 82 ∷ 86 ∷ 66 ∷ 1 ∷ 0 ∷ []

-- the bytes are these contents: the header of their numbers and the image behind it, which is whole words from a word's address on
pub record Holds (bytes : List ℕ) (f : Contents) : Type 0 where
  pub numbers : (f.start < 2 ^ 32) × (f.base < 2 ^ 32) × (f.limit < 2 ^ 32)
  pub same : bytes ≡ header_of f.start f.base (length f.image) f.limit ++ f.image
  pub words : (f.base % 4 ≡ 0) × (length f.image % 4 ≡ 0)
  pub within : (length f.image ≤ 32768) × (f.base + length f.image ≤ 2 ^ 32)

-- the reader's answer: the contents that the bytes are, or how far the bytes come
pub data Judges (bytes : List ℕ) : Result Contents Refusal → Type 0 where
  accepted : {f : Contents} → Holds bytes f → f.limit ≤ 1000000 → Judges bytes (Ok f)
  past_the_limit : {f : Contents} → Holds bytes f → 1000000 < f.limit → Judges bytes (Err Limit)
  misshapen : Begins mark_and_version bytes → ((f : Contents) → Holds bytes f → ⊥) → Judges bytes (Err Header)
  other_version : Begins mark bytes → (Begins mark_and_version bytes → ⊥) → Judges bytes (Err Version)
  unmarked : (Begins mark bytes → ⊥) → Judges bytes (Err NotBenchFile)

-- with any image behind them, the bytes get the verdict on these four numbers and that image
abbrev pub GetsTheVerdict : List ℕ → ℕ → ℕ → ℕ → ℕ → Type 0
GetsTheVerdict bytes start base size limit =
    (image : List ℕ) → file_of (bytes ++ image) ≡ judged start base size limit image

-- if the bytes are accepted with an image behind them, these numbers and that image are read back
abbrev pub ReadsBack : List ℕ → ℕ → ℕ → ℕ → Type 0
ReadsBack bytes start base limit =
    (image : List ℕ) (file : Contents) → file_of (bytes ++ image) ≡ Ok file →
    file ≡ record { start = start; base = base; limit = limit; image = image }

-- the first n bytes of an input get the verdict that the whole of it gets
abbrev pub Decides : ℕ → Type 0
Decides n = (bytes : List ℕ) → file_of (take n bytes) ≡ file_of bytes

-- an accepted image is whole words, from a word's address on, within the address space
abbrev pub WholeWords : Result Contents Refusal → Type 0
WholeWords r = IfOk r (λ f. (f.base % 4 ≡ 0) × (length f.image % 4 ≡ 0) × (f.base + length f.image ≤ 2 ^ 32))
