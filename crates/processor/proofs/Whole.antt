-- The words after a write, as a whole.
use Rattle.std.proofs.Common.{◌≡◌, ℕ}
use mathlib.Core.Path.{fun_ext}
use Rattle.memory.specs.Meaning.{patched}
use Rattle.memory.specs.declared.kind.Kind.{Kind}

pub patched_whole : (V W : ℕ → ℕ) (K : ℕ → Kind) (k v mask : ℕ) → ((j : ℕ) → V j ≡ patched K W k v mask j) → V ≡ patched K W k v mask
patched_whole V W K k v mask h = fun_ext h
