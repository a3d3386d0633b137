-- Two memories side by side.
use Rattle.std.specs.Prelude.{ℕ, ◌^◌, ◌<◌, ◌≤◌, true, false, cond, not, ◌≡◌, ltb}
use Rattle.memory.specs.Rest.{Rest, over, beside, hidden}
use Rattle.memory.specs.declared.kind.Kind.{Kind}
use Rattle.memory.specs.declared.kind.Kind.TheVariants.{Absent}

-- the left one's below `at`, the right one's otherwise: so for the kinds, and so for the words
abbrev pub joined : {X : Type 0} → ℕ → (ℕ → X) → (ℕ → X) → ℕ → X
joined at left right k = cond (ltb k at) (left k) (right k)

-- where the right one begins; and of each one its kinds, the words on the other one's side, and its rest
abbrev pub joined_rest : ℕ → (ℕ → Kind) → (ℕ → Kind) → (ℕ → ℕ) → (ℕ → ℕ) → Rest → Rest → Rest
joined_rest at leftKinds rightKinds leftWords rightWords leftRest rightRest =
    beside at
    (over 0 0 leftKinds (hidden (λ k. ltb k at) leftWords) leftRest)
    (over 0 0 rightKinds (hidden (λ k. not (ltb k at)) rightWords) rightRest)

pub joined_high : (at : ℕ) (left right : ℕ → Kind) → ((k : ℕ) → 2 ^ 30 ≤ k → left k ≡ Absent) → ((k : ℕ) → 2 ^ 30 ≤ k → right k ≡ Absent) → (k : ℕ) → 2 ^ 30 ≤ k → joined at left right k ≡ Absent
joined_high at left right a b k h = elim (ltb k at) as (λ t. cond t (left k) (right k) ≡ Absent) [ true ↦ a k h | false ↦ b k h ]

pub joined_fits : (at : ℕ) (left right : ℕ → ℕ) → ((k : ℕ) → left k < 2 ^ 32) → ((k : ℕ) → right k < 2 ^ 32) → (k : ℕ) → joined at left right k < 2 ^ 32
joined_fits at left right a b k = elim (ltb k at) as (λ t. cond t (left k) (right k) < 2 ^ 32) [ true ↦ a k | false ↦ b k ]
