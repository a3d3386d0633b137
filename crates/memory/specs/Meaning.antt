-- What the calls of a memory answer, and what a write leaves, by the kind of each word and the words themselves.
use Rattle.std.specs.Prelude.{ℕ, cond, Ok, Err, Result, ◌==◌, nat_lt}
use Rattle.memory.specs.declared.fault.Cause.{Cause}
use Rattle.memory.specs.declared.fault.Cause.TheVariants.{NoWord, FixedWord, BadMask}
use Rattle.memory.specs.declared.fault.MemoryFault.{MemoryFault}
use Rattle.memory.specs.declared.kind.Kind.{Kind}
use Rattle.memory.specs.declared.kind.Kind.TheVariants.{Absent, Fixed, Open}
use Rattle.memory.specs.Lanes.{merged}

-- a refusal carries its cause and the word number given to the call
abbrev pub refused : Cause → ℕ → MemoryFault
refused c k = record { cause = c; word = k }

-- a read of word k, of this kind and value
abbrev pub read_of : ℕ → Kind → ℕ → Result ℕ MemoryFault
read_of k Absent w = Err (refused NoWord k)
read_of k Fixed w = Ok w
read_of k Open w = Ok w

-- a write to word k, of this kind, by a mask that is in order
abbrev pub allowed : ℕ → Kind → Result (Unit {0}) MemoryFault
allowed k Absent = Err (refused NoWord k)
allowed k Fixed = Err (refused FixedWord k)
allowed k Open = Ok tt

-- the mask is looked at first
abbrev pub write_of : ℕ → ℕ → Kind → Result (Unit {0}) MemoryFault
write_of k mask kind = cond (nat_lt 15 mask) (Err (refused BadMask k)) (allowed k kind)

-- a word of this kind after a write to it
abbrev pub written : ℕ → ℕ → Kind → ℕ → ℕ
written mask v Absent w = w
written mask v Fixed w = w
written mask v Open w = cond (nat_lt 15 mask) w (merged mask v w)

-- word j after a write to word k
abbrev pub patched : (ℕ → Kind) → (ℕ → ℕ) → ℕ → ℕ → ℕ → ℕ → ℕ
patched kinds words k v mask j = cond (j == k) (written mask v (kinds j) (words j)) (words j)
