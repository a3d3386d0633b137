-- Two stores under a stack: the left one placed, the right one shielded, and both joined.
use Rattle.std.specs.Prelude.{ℕ}
use Rattle.layers.specs.declared.joined.Joined.{Joined}
use Rattle.layers.specs.declared.placed.Placed.{Placed}
use Rattle.layers.specs.declared.shield.Shield.{Shield}
use Rattle.layers.specs.Joined.{joined}
use Rattle.layers.specs.Placed.{placed_kinds, placed_words}
use Rattle.layers.specs.Shield.{shield_kinds}
use Rattle.memory.specs.declared.kind.Kind.{Kind}
use Rattle.stack.specs.declared.settings.Settings.{Settings}

abbrev pub stacked : {L R : Type 0} → Settings → L → R → Joined (Placed L) (Shield R)
stacked s left right = record { at = s.at; left = record { base = s.base; below = left }; right = record { from = s.from; to = s.to; below = right } }

abbrev pub stack_kinds : Settings → (ℕ → Kind) → (ℕ → Kind) → ℕ → Kind
stack_kinds s left right = joined s.at (placed_kinds s.base left) (shield_kinds s.from s.to right)

abbrev pub stack_words : Settings → (ℕ → ℕ) → (ℕ → ℕ) → ℕ → ℕ
stack_words s left right = joined s.at (placed_words s.base left) right
