-- A bench over a stack of layers on two stores of any makes.
use Rattle.std.specs.Prelude.{ℕ, ◌^◌, ◌<◌}
use Rattle.bench.specs.State.{State}
use Rattle.bench.specs.declared.bench.Bench.{Bench}
use Rattle.layers.specs.Joined.{joined_fits, joined_rest}
use Rattle.layers.specs.Placed.{placed_fits, placed_kinds, placed_words, placed_rest}
use Rattle.layers.specs.Shield.{shield_kinds, shield_rest}
use Rattle.layers.specs.declared.joined.Joined.{Joined}
use Rattle.layers.specs.declared.placed.Placed.{Placed}
use Rattle.layers.specs.declared.shield.Shield.{Shield}
use Rattle.memory.specs.Rest.{Rest}
use Rattle.memory.specs.declared.interfaces.ReadMemory.{Ghosts}
use Rattle.stack.specs.Stack.{stack_kinds, stack_words}
use Rattle.stack.specs.declared.settings.Settings.{Settings}

-- the words of a stack have 32 bits if those of the stores do
pub stack_fits : (s : Settings) (left right : ℕ → ℕ) → ((k : ℕ) → left k < 2 ^ 32) → ((k : ℕ) → right k < 2 ^ 32) → (k : ℕ) → stack_words s left right k < 2 ^ 32
stack_fits s left right l r k = joined_fits s.at _ _ (placed_fits s.base left l) r k

-- the left store, placed, and the right one, shielded
abbrev pub Pile : Type 0 → Type 0 → Type 0
Pile L R = Joined (Placed L) (Shield R)

abbrev pub settings_of : {L R : Type 0} → Pile L R → Settings
settings_of m = record { base = m.left.base; from = m.right.from; to = m.right.to; at = m.at }

-- the state of a bench over a stack of stores with these meanings
abbrev pub stacked_state : {L R : Type 0} → Ghosts L → Ghosts R → Bench (Pile L R) → State
stacked_state l r b =
    let s = settings_of b.memory in
    let left = b.memory.left.below in
    let right = b.memory.right.below in
    record {
      core = b.core;
      journal = b.journal;
      clocks = b.clocks;
      retired = b.retired;
      kinds = stack_kinds s (l.kinds left) (r.kinds right);
      words = stack_words s (l.words left) (r.words right);
    }

-- what no write through a stack changes
abbrev pub stacked_rest : {L R : Type 0} → Ghosts L → Ghosts R → (L → Rest) → (R → Rest) → Pile L R → Rest
stacked_rest l r left-rest right-rest m =
    let s = settings_of m in
    let left = m.left.below in
    let right = m.right.below in
    joined_rest s.at (placed_kinds s.base (l.kinds left)) (shield_kinds s.from s.to (r.kinds right)) (placed_words s.base (l.words left)) (r.words right)
    (placed_rest s.base (l.kinds left) (l.words left) (left-rest left)) (shield_rest s.from s.to (r.kinds right) (right-rest right))
