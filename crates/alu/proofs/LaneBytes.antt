-- A store's bytes in the lanes of a word, lane by lane.
-- Assumes nothing.
use mathlib.Core.Path.{◌≡◌, refl}
use mathlib.Core.Bool.{cond}
use Prim.Native.Nat.{ℕ, ◌-◌, ◌*◌, ◌/◌, ◌%◌, ◌^◌, ◌<◌}
use native.Mathlib.Omega.{arith}
use borrow.Author.Count.{below_none, below_more}
use lib.Dec.{eqb}
use Rattle.bits.specs.Field.{field}
use Rattle.alu.specs.Stores.{value_of, mask_of, Placed, ReadBack}
use Rattle.alu.specs.declared.stores.Store.{Store}
use Rattle.alu.specs.declared.stores.Store.TheVariants.{Byte, Half, Word}

module _ (P : ℕ → Type 0) where
  pub two : P 0 → P 1 → (k : ℕ) → k < 2 → P k
  two a b = below_more P 1 (below_more P 0 (below_none P) a) b

  pub four : P 0 → P 1 → P 2 → P 3 → (k : ℕ) → k < 4 → P k
  four a b c d = below_more P 3 (below_more P 2 (two a b) c) d

-- lane k of a word with the register's low byte in lane j, or its low half from lane 2 * j up
abbrev ByteLane : ℕ → ℕ → ℕ → Type 0
ByteLane value j k = field (8 * k) 8 (field 0 8 value * 2 ^ (8 * j)) ≡ cond (eqb (field k 1 (2 ^ j)) 1) (field (8 * (k - j)) 8 value) 0

abbrev HalfLane : ℕ → ℕ → ℕ → Type 0
HalfLane value j k = field (8 * k) 8 (field 0 16 value * 2 ^ (16 * j)) ≡ cond (eqb (field k 1 (3 * 2 ^ (2 * j))) 1) (field (8 * (k - 2 * j)) 8 value) 0

module _ (value : ℕ) where
  pub byte_lanes_lem : (j : ℕ) → j < 4 → (k : ℕ) → k < 4 → ByteLane value j k
  byte_lanes_lem =
      four (λ j. (k : ℕ) → k < 4 → ByteLane value j k)
      (four (ByteLane value 0) (omega arith) (omega arith) (omega arith) (omega arith))
      (four (ByteLane value 1) (omega arith) (omega arith) (omega arith) (omega arith))
      (four (ByteLane value 2) (omega arith) (omega arith) (omega arith) (omega arith))
      (four (ByteLane value 3) (omega arith) (omega arith) (omega arith) (omega arith))

  pub half_lanes_lem : (j : ℕ) → j < 2 → (k : ℕ) → k < 4 → HalfLane value j k
  half_lanes_lem =
      two (λ j. (k : ℕ) → k < 4 → HalfLane value j k)
      (four (HalfLane value 0) (omega arith) (omega arith) (omega arith) (omega arith))
      (four (HalfLane value 1) (omega arith) (omega arith) (omega arith) (omega arith))

  pub word_lanes : (k : ℕ) → k < 4 → field (8 * k) 8 value ≡ cond (eqb (field k 1 15) 1) (field (8 * (k - 0)) 8 value) 0
  word_lanes = four (λ k. field (8 * k) 8 value ≡ cond (eqb (field k 1 15) 1) (field (8 * (k - 0)) 8 value) 0) refl refl refl refl

  pub byte_back : (j : ℕ) → j < 4 → field (8 * j) 8 (field 0 8 value * 2 ^ (8 * j)) ≡ field 0 8 value
  byte_back = four (λ j. field (8 * j) 8 (field 0 8 value * 2 ^ (8 * j)) ≡ field 0 8 value) (omega arith) (omega arith) (omega arith) (omega arith)

  pub half_back : (j : ℕ) → j < 2 → field (16 * j) 16 (field 0 16 value * 2 ^ (16 * j)) ≡ field 0 16 value
  half_back = two (λ j. field (16 * j) 16 (field 0 16 value * 2 ^ (16 * j)) ≡ field 0 16 value) (omega arith) (omega arith)

module _ (value address : ℕ) where
  pub byte_value : (store : Store) (b : ℕ) → store ≡ Byte → b ≡ field 0 8 value → b * 2 ^ (8 * (address % 4)) % 2 ^ 32 ≡ value_of store value address
  byte_value store b is low =
      let small : b < 2 ^ 8 = omega arith in
      rw (is, ← low) (raised (address % 4) (omega arith) b small)
    where
      raised : (j : ℕ) → j < 4 → (b : ℕ) → b < 2 ^ 8 → b * 2 ^ (8 * j) % 2 ^ 32 ≡ b * 2 ^ (8 * j)
      raised = four (λ j. (b : ℕ) → b < 2 ^ 8 → b * 2 ^ (8 * j) % 2 ^ 32 ≡ b * 2 ^ (8 * j)) (λ b h. omega arith) (λ b h. omega arith) (λ b h. omega arith) (λ b h. omega arith)

  pub byte_mask : (store : Store) → store ≡ Byte → 1 * 2 ^ (address % 4) % 256 ≡ mask_of store address
  byte_mask store is = rw is (four (λ j. 1 * 2 ^ j % 256 ≡ 2 ^ j) refl refl refl refl (address % 4) (omega arith))

  pub half_value : (store : Store) (h : ℕ) → store ≡ Half → h ≡ field 0 16 value → h * 2 ^ (16 * (address / 2 % 2)) % 2 ^ 32 ≡ value_of store value address
  half_value store h is low =
      let small : h < 2 ^ 16 = omega arith in
      rw (is, ← low) (raised (address / 2 % 2) (omega arith) h small)
    where
      raised : (j : ℕ) → j < 2 → (h : ℕ) → h < 2 ^ 16 → h * 2 ^ (16 * j) % 2 ^ 32 ≡ h * 2 ^ (16 * j)
      raised = two (λ j. (h : ℕ) → h < 2 ^ 16 → h * 2 ^ (16 * j) % 2 ^ 32 ≡ h * 2 ^ (16 * j)) (λ h e. omega arith) (λ h e. omega arith)

  pub half_mask : (store : Store) → store ≡ Half → 3 * 2 ^ (2 * (address / 2 % 2)) % 256 ≡ mask_of store address
  half_mask store is = rw is (two (λ j. 3 * 2 ^ (2 * j) % 256 ≡ 3 * 2 ^ (2 * j)) refl refl (address / 2 % 2) (omega arith))

  pub placed : (store : Store) (word mask : ℕ) → word ≡ value_of store value address → mask ≡ mask_of store address → Placed store value address word mask
  placed Byte word mask e f = rw (e, f) (byte_lanes_lem value (address % 4) (omega arith))
  placed Half word mask e f = rw (e, f) (half_lanes_lem value (address / 2 % 2) (omega arith))
  placed Word word mask e f = rw (e, f) (word_lanes value)

  pub back : (store : Store) (word : ℕ) → word ≡ value_of store value address → ReadBack store value address word
  back Byte word e = rw e (byte_back value (address % 4) (omega arith))
  back Half word e = rw e (half_back value (address / 2 % 2) (omega arith))
  back Word word e = e

-- a store in the lanes of a word
pub ruleset stored = (byte_value, byte_mask, half_value, half_mask, placed, back)
