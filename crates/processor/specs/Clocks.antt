-- What a clock of any core owes to RV32I by whole instructions.
use Rattle.std.specs.Prelude.{◌≡◌, ℕ, suc}
use Rattle.isa.specs.declared.mnemonic.Class.{Class}
use Rattle.machine.specs.Machine.{Arch, Step, went, cannot}
use Rattle.machine.specs.declared.cause.Cause.{Cause}

-- what a clock comes to: the instruction goes on, it retires, or it is refused for a cause, with an address
pub data Beat : Type 0 where
  on : Beat
  retired : Beat
  refused : Cause → ℕ → Beat

-- C are the states of a core. Owes a g c says that c has had g clocks of the instruction at a, and has read of it what
-- the machine reads; with g = 0 none is open, and PC and the registers are those of a.
-- cost is how many clocks an instruction of each class takes.
module _ {C : Type 0} (Owes : Arch → ℕ → C → Type 0) (cost : Class → ℕ) where
  -- the clock that retires the instruction at a, whose step is st, after g others: with it the step is made whole, and not before
  pub record Retires (a : Arch) (st : Step) (g : ℕ) (c : C) (words : ℕ → ℕ) : Type 0 where
    pub to : Arch
    pub by : Class
    pub step : st ≡ went to by
    pub owes : Owes to 0 c
    pub stored : words ≡ to.words
    pub clocks : suc g ≡ cost by

  -- the clock that is refused: the step cannot be carried out for this cause, and registers, bytes and PC are as before it
  pub record Refuses (a : Arch) (st : Step) (e : Cause) (address : ℕ) (c : C) (words : ℕ → ℕ) : Type 0 where
    pub step : st ≡ cannot e
    pub at : address ≡ a.pc
    pub owes : Owes a 0 c
    pub kept : words ≡ a.words

  -- a clock of a core that has had g clocks of the instruction at a, whose step is st: it leaves the core c, and the memory with these words
  abbrev pub Clocked : Arch → Step → ℕ → Beat → C → (ℕ → ℕ) → Type 0
  Clocked a st g on c words = Owes a (suc g) c × (words ≡ a.words)
  Clocked a st g retired c words = Retires a st g c words
  Clocked a st g (refused e address) c words = Refuses a st e address c words
