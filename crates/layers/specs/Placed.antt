-- A memory moved up by `base` words.
use Rattle.std.specs.Prelude.{ℕ, ◌+◌, ◌-◌, ◌^◌, ◌<◌, ◌≤◌, Bool, true, false, cond, ◌&&◌, ◌≡◌, refl, leb, ltb}
use Rattle.std.proofs.Common.{arith, le-ltb}
use Rattle.memory.specs.Rest.{Rest, over, hidden}
use Rattle.memory.specs.declared.kind.Kind.{Kind}
use Rattle.memory.specs.declared.kind.Kind.TheVariants.{Absent}

-- word k stands for a word of the memory below: it is at or above `base`, and below 2^30
abbrev pub reaches : ℕ → ℕ → Bool
reaches base k = leb base k && ltb k (2 ^ 30)

-- word k is word k - base of the memory below
abbrev pub placed_kinds : ℕ → (ℕ → Kind) → ℕ → Kind
placed_kinds base kinds k = cond (reaches base k) (kinds (k - base)) Absent

abbrev pub placed_words : ℕ → (ℕ → ℕ) → ℕ → ℕ
placed_words base words k = cond (reaches base k) (words (k - base)) 0

-- the setting, and the words below that would come to stand at 2^30 and above
abbrev pub placed_rest : ℕ → (ℕ → Kind) → (ℕ → ℕ) → Rest → Rest
placed_rest base kinds words rest = over base 0 kinds (hidden (λ j. ltb (j + base) (2 ^ 30)) words) rest

pub placed_high : (base : ℕ) (kinds : ℕ → Kind) (k : ℕ) → 2 ^ 30 ≤ k → placed_kinds base kinds k ≡ Absent
placed_high base kinds k h =
    let e : ltb k (2 ^ 30) ≡ false = le-ltb k _ h in
    rw e (elim (leb base k) as (λ b. cond (b && false) (kinds (k - base)) Absent ≡ Absent) [ true ↦ refl | false ↦ refl ])

pub placed_fits : (base : ℕ) (words : ℕ → ℕ) → ((k : ℕ) → words k < 2 ^ 32) → (k : ℕ) → placed_words base words k < 2 ^ 32
placed_fits base words h k = elim (reaches base k) as (λ b. cond b (words (k - base)) 0 < 2 ^ 32) [ true ↦ h (k - base) | false ↦ omega arith ]
