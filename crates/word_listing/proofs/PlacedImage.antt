-- A byte image placed at its base shows its words from there on.
-- Assumes nothing.
use Rattle.std.proofs.Common.{◌≡◌, ℕ, ◌+◌, ◌-◌, ◌*◌, ◌/◌, ◌^◌, ◌<◌, ◌≤◌, true, List, map, length, Ok, Result, refl, ap, ◌∙◌, arith}
use Rattle.std.proofs.lemmas.List.FromFn.{fill_by_all, get_or-map-range_with_len, length-map-range_with_len}
use Rattle.std.proofs.lemmas.Bool.Decides.{nat_tests}
use Rattle.std.specs.List.{range_with_len}
use Rattle.std.specs.Result.{result_unwrap_or}
use Rattle.memory.specs.declared.fault.MemoryFault.{MemoryFault}
use Rattle.memory.specs.declared.kind.Kind.TheVariants.{Fixed}
use Rattle.memory.specs.Meaning.{read_of}
use Rattle.layers.specs.Placed.{placed_kinds, placed_words, reaches}
use Rattle.stores.specs.Layout.{kind_in_layout, whole, word_at, word_in}
use Rattle.word_listing.specs.Output.{words_of}

-- what a read of word k answers, or 0
abbrev pub held : ℕ → List ℕ → ℕ → ℕ
held base bytes k = result_unwrap_or (read_of k (placed_kinds base (kind_in_layout Fixed bytes) k) (placed_words base (word_in bytes) k)) 0

-- no read of a word of the image is refused
pub shown : (base k : ℕ) (bytes : List ℕ) → base + k < 2 ^ 30 → 4 * k + 3 < length bytes → read_of (base + k) (placed_kinds base (kind_in_layout Fixed bytes) (base + k)) (placed_words base (word_in bytes) (base + k)) ≡ Ok (word_at bytes k)
shown base k bytes low within =
    let there : reaches base (base + k) ≡ true = grind (arith, nat_tests) in
    let number : base + k - base ≡ k = omega arith in
    let here : whole (length bytes) k ≡ true = grind (arith, nat_tests) in
    rw (there, number, here) refl

pub all_shown : (base : ℕ) (bytes : List ℕ) → base + length bytes / 4 ≤ 2 ^ 30 → map (held base bytes) (range_with_len base (length bytes / 4)) ≡ words_of bytes
all_shown base bytes low = fill_by_all (word_at bytes) _ (length bytes / 4) 0 (length-map-range_with_len _ _ _)
    (λ k within. get_or-map-range_with_len (held base bytes) base (length bytes / 4) k (base + k) 0 within refl ∙ ap (λ (r : Result ℕ MemoryFault). result_unwrap_or r 0) (shown base k bytes (omega arith) (omega arith)))
