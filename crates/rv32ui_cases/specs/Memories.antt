-- The memories that programs run on.
use Rattle.std.specs.Prelude.{ℕ, ◌+◌, ◌-◌, ◌^◌, Bool, true, false, ◌&&◌, cond, leb, ltb, List, ◌++◌, length, get_or, nat_lt, ◌==◌}
use Rattle.layers.specs.Placed.{placed_kinds, placed_words}
use Rattle.layers.specs.Shield.{shield_kinds}
use Rattle.memory.specs.declared.kind.Kind.{Kind}
use Rattle.memory.specs.declared.kind.Kind.TheVariants.{Absent, Fixed, Open}
use Rattle.rv32ui_cases.specs.Data.{data_of}
use Rattle.rv32ui_cases.specs.declared.program.Program.{Program}
use Rattle.rv32ui_cases.specs.declared.running.Over.{Over}
use Rattle.rv32ui_cases.specs.declared.running.Over.TheVariants.{ByteImage, Stack}

abbrev pub is_open : Kind → Bool
is_open Absent = false
is_open Fixed = false
is_open Open = true

-- a memory's words once a whole word is written, which leaves one that is not open
abbrev pub with_whole : (ℕ → Kind) → ℕ → ℕ → (ℕ → ℕ) → ℕ → ℕ
with_whole kinds k w words j = cond (j == k && is_open (kinds j)) w (words j)

-- and once the first n words of a list are written, the first of them as word k
abbrev pub laid_first : ℕ → (ℕ → Kind) → ℕ → List ℕ → (ℕ → ℕ) → ℕ → ℕ
laid_first n kinds k list words j = cond (leb k j && (ltb j (k + n) && is_open (kinds j))) (get_or list (j - k) 0) (words j)

abbrev pub laid : (ℕ → Kind) → ℕ → List ℕ → (ℕ → ℕ) → ℕ → ℕ
laid kinds k list = laid_first (length list) kinds k list

-- once a program and its data are written from word 0 on
abbrev pub loaded : Program → (ℕ → Kind) → (ℕ → ℕ) → ℕ → ℕ
loaded p kinds words = laid kinds 64 (data_of p.mnemonic) (laid kinds 0 p.words words)

-- 128 words that hold a program, its data behind it, and zeros
abbrev pub bare_kinds : ℕ → Kind
bare_kinds k = cond (nat_lt k 128) Open Absent

abbrev pub bare_words : Program → ℕ → ℕ
bare_words p k = cond (nat_lt k 128) (get_or (p.words ++ data_of p.mnemonic) k 0) 0

-- the memory that a program runs on: these, or the same placed at 2 ^ 31 with all that is before the data shielded
abbrev pub kinds_over : Over → ℕ → Kind
kinds_over ByteImage = bare_kinds
kinds_over Stack = shield_kinds 0 (2 ^ 29 + 64) (placed_kinds (2 ^ 29) bare_kinds)

abbrev pub words_over : Program → Over → ℕ → ℕ
words_over p ByteImage = bare_words p
words_over p Stack = placed_words (2 ^ 29) (bare_words p)
