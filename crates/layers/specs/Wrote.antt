-- What a write to word k leaves of a memory that it may have reached or not.
use Rattle.std.specs.Prelude.{◌≡◌, ℕ, Bool, cond}
use Rattle.memory.specs.Meaning.{patched}
use Rattle.memory.specs.Rest.{Rest}
use Rattle.memory.specs.declared.kind.Kind.{Kind}

pub record Wrote (kinds : ℕ → Kind) (words : ℕ → ℕ) (rest : Rest) (reached : Bool) (k v mask : ℕ) (kinds' : ℕ → Kind) (words' : ℕ → ℕ) (rest' : Rest) : Type 0 where
  -- the kinds are as they were
  pub kept : kinds' ≡ kinds
  -- the words are those after the write if it came here, and as they were otherwise
  pub after : (j : ℕ) → words' j ≡ cond reached (patched kinds words k v mask j) (words j)
  -- all else is as it was
  pub rests : rest' ≡ rest
