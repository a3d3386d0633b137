-- What a worked example says, in terms of the definitions that the contracts of the code are about.
use Rattle.std.specs.Prelude.{◌≡◌, ℕ, List, [], ◌∷◌}
use Rattle.isa.specs.declared.instruction.Instruction.{Instruction}
use Rattle.isa.specs.Reading.{Reads}
use Rattle.alu.specs.declared.operations.Operation.{Operation}
use Rattle.alu.specs.declared.loads.Load.{Load}
use Rattle.alu.specs.declared.stores.Store.{Store}
use Rattle.alu.specs.Operations.{operated}
use Rattle.alu.specs.Loads.{loaded_of}
use Rattle.alu.specs.Stores.{mask_of}

pub data Example : Type 0 where
  -- this word reads as this instruction
  reads : ℕ → Instruction → Example
  -- this word reads as no instruction
  refused : ℕ → Example
  -- this operation on these two operands gives this
  gives : Operation → ℕ → ℕ → ℕ → Example
  -- this load, of this word at this address, gives this
  loads : Load → ℕ → ℕ → ℕ → Example
  -- this store to this address writes these lanes
  writes : Store → ℕ → ℕ → Example

abbrev pub Holds : Example → Type 0
Holds (reads w i) = Reads w i
Holds (refused w) = (i : Instruction) → Reads w i → ⊥
Holds (gives o a b r) = operated o a b ≡ r
Holds (loads l w a r) = loaded_of l w a ≡ r
Holds (writes s a m) = mask_of s a ≡ m

-- every example of the list holds
abbrev pub Every : List Example → Type 0
Every [] = Unit {0}
Every (e ∷ es) = Holds e × Every es
