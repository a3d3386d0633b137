-- The memory that options make of an image and a bank.
use Rattle.std.specs.Prelude.{ℕ, ◌^◌, Some, None, Option}
use Rattle.layers.specs.declared.joined.Joined.{Joined}
use Rattle.layers.specs.declared.placed.Placed.{Placed}
use Rattle.layers.specs.declared.shield.Shield.{Shield}
use Rattle.layers.specs.Joined.{joined}
use Rattle.layers.specs.Placed.{placed_kinds, placed_words}
use Rattle.layers.specs.Shield.{shield_kinds}
use Rattle.memory.specs.declared.kind.Kind.{Kind}
use Rattle.setup.specs.declared.options.Options.{Options}
use Rattle.setup.specs.declared.options.Ram.{Ram}
use Rattle.setup.specs.declared.options.WordRange.{WordRange}

-- without a shield no word is shielded
abbrev pub range_from : Option WordRange → WordRange
range_from None = record { from = 0; to = 0 }
range_from (Some range) = range

-- without a bank it begins where no word is
abbrev pub bank_from : Option Ram → ℕ
bank_from None = 2 ^ 30
bank_from (Some ram) = ram.at

-- without a bank it has no words
abbrev pub bank_length : Option Ram → ℕ
bank_length None = 0
bank_length (Some ram) = ram.words

abbrev pub mapped : {L R : Type 0} → Options → ℕ → L → R → Joined (Shield (Placed L)) (Placed R)
mapped o base image bank = record {
  at = bank_from o.ram;
  left = record { from = (range_from o.shield).from; to = (range_from o.shield).to; below = record { base = base; below = image } };
  right = record { base = bank_from o.ram; below = bank };
}

-- the kinds and the words: the image placed at word number `base`, under the shield, and from the bank's first word on the bank, placed there
abbrev pub map_kinds : Options → ℕ → (ℕ → Kind) → (ℕ → Kind) → ℕ → Kind
map_kinds o base image bank = joined (bank_from o.ram) (shield_kinds (range_from o.shield).from (range_from o.shield).to (placed_kinds base image)) (placed_kinds (bank_from o.ram) bank)

abbrev pub map_words : Options → ℕ → (ℕ → ℕ) → (ℕ → ℕ) → ℕ → ℕ
map_words o base image bank = joined (bank_from o.ram) (placed_words base image) (placed_words (bank_from o.ram) bank)
