-- What `listing` prints for what an input says as a bench file.
use Rattle.std.specs.Prelude.{◌≡◌, ℕ, ◌/◌, List, map, length, Ok, Err, Result}
use Rattle.std.specs.List.{range_with_len}
use Rattle.benchfile.specs.declared.refusals.Refusal.{Refusal}
use Rattle.benchfile.specs.Format.{Contents}
use Rattle.benchfile.specs.Refusals.{number_of}
use Rattle.report.specs.Lines.{refused_of}
use Rattle.report.specs.Listing.{Lists}
use Rattle.stores.specs.Layout.{word_at}

-- the words of an image, in order
abbrev pub words_of : List ℕ → List ℕ
words_of image = map (word_at image) (range_with_len 0 (length image / 4))

-- the listing of the image at its base, or the refusal's number
abbrev pub Answers : Result Contents Refusal → List ℕ → Type 0
Answers (Ok file) printed = Lists file.base (words_of file.image) printed
Answers (Err refusal) printed = printed ≡ refused_of (number_of refusal)
