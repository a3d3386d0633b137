-- The core against RV32I by whole instructions: clock by clock, and over the clocks of one instruction.
use Rattle.std.specs.Prelude.{◌≡◌, ℕ, zero, suc, ◌+◌, cond, Ok, Err, Result}
use Rattle.machine.specs.Machine.{Arch, Step, went, cannot, stepped}
use Rattle.memory.specs.declared.kind.Kind.{Kind}
use Rattle.processor.specs.Clocks.{Clocked, on}
use Rattle.arch1.specs.Clock.{tick_answer, ticked_core, ticked_words, beat_of}
use Rattle.arch1.specs.Owes.{clocks_of_class, Owes}
use Rattle.arch1.specs.Datapath.{Datapath}
use Rattle.arch1.specs.declared.phase.Phase.TheVariants.{T0}
use Rattle.arch1.specs.declared.phase.Ticked.{Ticked}
use Rattle.arch1.specs.declared.phase.CoreFault.{CoreFault}

-- an answer names the phase that follows, and a refusal the phase of the refused clock
abbrev pub NamesPhases : Result Ticked CoreFault → Datapath → Datapath → Type 0
NamesPhases (Ok t) c d = t.next ≡ d.phase
NamesPhases (Err f) c d = f.phase ≡ c.phase

-- a clock of the core c over the words W, which answers r and leaves the core d and the words V: whatever instruction
-- the core is in, and after however many of its clocks, it keeps what it owes; and the answer names the right phase
unfoldable pub Keeps : (ℕ → Kind) → (ℕ → ℕ) → Datapath → Result Ticked CoreFault → Datapath → (ℕ → ℕ) → Type 0
Keeps K W c r d V =
    ((a : Arch) (g : ℕ) → a.words ≡ W → Owes K a g c → Clocked (Owes K) clocks_of_class a (stepped K a) g (beat_of r) d V) × NamesPhases r c d

-- a core and the words of its memory
pub record Rig : Type 0 where
  pub core : Datapath
  pub words : ℕ → ℕ

abbrev pub rig : Datapath → (ℕ → ℕ) → Rig
rig c W = record { core = c; words = W }

-- the machine where a core that is between instructions is
abbrev pub machine_at : Datapath → (ℕ → ℕ) → Arch
machine_at c W = record { pc = c.pc; registers = c.registers; words = W }

abbrev pub ticked : (ℕ → Kind) → Rig → Rig
ticked K s = record { core = ticked_core K s.words s.core; words = ticked_words K s.words s.core }

abbrev pub answer : (ℕ → Kind) → Rig → Result Ticked CoreFault
answer K s = tick_answer K s.words s.core

-- k clocks
abbrev pub ticks : (ℕ → Kind) → ℕ → Rig → Rig
ticks K zero s = s
ticks K (suc k) s = ticks K k (ticked K s)

-- the first k clocks neither retire an instruction nor are refused
abbrev pub StillOpen : (ℕ → Kind) → ℕ → Rig → Type 0
StillOpen K zero s = Unit {0}
StillOpen K (suc k) s = (beat_of (answer K s) ≡ on) × StillOpen K k (ticked K s)

-- at most k clocks, up to the first that retires an instruction or is refused; the answer is how many, with those done before
abbrev pub answer_on : Result Ticked CoreFault → ℕ → Result ℕ CoreFault → Result ℕ CoreFault
answer_on (Ok t) n next = cond t.retired (Ok n) next
answer_on (Err f) n next = Err f

unfoldable pub answer_for : (ℕ → Kind) → ℕ → ℕ → Rig → Result ℕ CoreFault
answer_for K zero done s = Ok done
answer_for K (suc k) done s = answer_on (answer K s) (done + 1) (answer_for K k (done + 1) (ticked K s))

abbrev pub rig_on : Result Ticked CoreFault → Rig → Rig → Rig
rig_on (Ok t) s next = cond t.retired s next
rig_on (Err f) s next = s

unfoldable pub rig_for : (ℕ → Kind) → ℕ → Rig → Rig
rig_for K zero s = s
rig_for K (suc k) s = rig_on (answer K s) (ticked K s) (rig_for K k (ticked K s))

-- the core is between instructions at a, with its PC and registers, and the memory has its words
pub record RestsAt (K : ℕ → Kind) (a : Arch) (s : Rig) : Type 0 where
  pub owes : Owes K a 0 s.core
  pub phase : s.core.phase ≡ T0
  pub pc : s.core.pc ≡ a.pc
  pub registers : s.core.registers ≡ a.registers
  pub words : s.words ≡ a.words

-- the clocks of one instruction against one step of the machine: as many as its class takes, and the machine's state after it;
-- or a refusal exactly where the step cannot be carried out, for its cause and at its address, and all as before
abbrev pub Carries : (ℕ → Kind) → Arch → Step → Result ℕ CoreFault → Rig → Type 0
Carries K a (went b k) (Ok n) t = (n ≡ clocks_of_class k) × RestsAt K b t
Carries K a (went b k) (Err f) t = ⊥
Carries K a (cannot c) (Ok n) t = ⊥
Carries K a (cannot c) (Err f) t = (f.cause ≡ c) × (f.address ≡ a.pc) × RestsAt K a t

-- from s, between instructions at a, to t with the answer r
pub record Refines (K : ℕ → Kind) (a : Arch) (s : Rig) (r : Result ℕ CoreFault) (t : Rig) : Type 0 where
  pub carries : Carries K a (stepped K a) r t
  -- while the instruction is open, nothing of a has changed
  pub before : (k : ℕ) → StillOpen K k s →
      Owes K a k (ticks K k s).core × ((ticks K k s).core.registers ≡ a.registers) × ((ticks K k s).words ≡ a.words)
