-- Two small memories.
use Rattle.std.specs.Prelude.{ℕ, cond, ◌==◌}
use Rattle.memory.specs.Meaning.{patched}
use Rattle.memory.specs.Rest.{Rest, lent, nowhere}
use Rattle.memory.specs.declared.kind.Kind.{Kind}
use Rattle.memory.specs.declared.kind.Kind.TheVariants.{Absent, Open}

-- word 0 is open, and no other is there
abbrev pub one_open : ℕ → Kind
one_open k = cond (k == 0) Open Absent

-- every word is 0
abbrev pub zeros : ℕ → ℕ
zeros k = 0

-- word 0 is 7 then
abbrev pub with_seven : ℕ → ℕ
with_seven = patched one_open zeros 0 7 0b1111

-- four cells of this name, each of them part of a word
abbrev pub four_of : ℕ → Rest
four_of name = lent name 4 nowhere
