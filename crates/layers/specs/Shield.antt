-- A memory of which a range of words cannot be written.
use Rattle.std.specs.Prelude.{ℕ, ◌^◌, ◌≤◌, Bool, true, false, cond, ◌&&◌, ◌≡◌, refl, leb, ltb}
use Rattle.memory.specs.Rest.{Rest, over, nowhere}
use Rattle.memory.specs.declared.kind.Kind.{Kind}
use Rattle.memory.specs.declared.kind.Kind.TheVariants.{Absent, Fixed, Open}

-- from <= k < to
abbrev pub shielded : ℕ → ℕ → ℕ → Bool
shielded from to k = leb from k && ltb k to

-- an open word becomes fixed
abbrev pub closed : Kind → Kind
closed Absent = Absent
closed Fixed = Fixed
closed Open = Fixed

-- the shielded words are closed, and the others are as below; the words hold what they hold below
abbrev pub shield_kinds : ℕ → ℕ → (ℕ → Kind) → ℕ → Kind
shield_kinds from to kinds k = cond (shielded from to k) (closed (kinds k)) (kinds k)

-- the settings, and the kinds below; every word shows
abbrev pub shield_rest : ℕ → ℕ → (ℕ → Kind) → Rest → Rest
shield_rest from to kinds rest = over from to kinds nowhere rest

pub shield_high : (from to : ℕ) (kinds : ℕ → Kind) → ((k : ℕ) → 2 ^ 30 ≤ k → kinds k ≡ Absent) → (k : ℕ) → 2 ^ 30 ≤ k → shield_kinds from to kinds k ≡ Absent
shield_high from to kinds below k h = rw (below k h) (elim (shielded from to k) as (λ b. cond b (closed Absent) Absent ≡ Absent) [ true ↦ refl | false ↦ refl ])
