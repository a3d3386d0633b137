-- What reads as an instruction.
use Rattle.std.proofs.Common.{◌≡◌, eqb, [], ◌∷◌, pos, refl, arith, Some, Option, Ok, Result}
use Rattle.std.specs.Ordering.{int_eq}
use Rattle.isa.specs.declared.instruction.Instruction.{Instruction}
use Rattle.isa.specs.declared.mnemonic.Format.TheVariants.{Immediate, Store}
use Rattle.isa.specs.declared.mnemonic.Mnemonic.TheVariants.{Addi, Lw, Lh}
use Rattle.isa.specs.declared.refusal.Refusal.{Refusal}
use Rattle.actions.specs.Actions.{action_of_word}
use Rattle.actions.specs.declared.action.Action.{Action}
use Rattle.actions.specs.declared.action.Action.TheVariants.{CompI}
use Rattle.alu.specs.declared.operations.Operation.TheVariants as operation
use Rattle.isa.specs.Decoding.{reading_of}
use Rattle.isa.specs.Reading.{Reads}
use Rattle.isa.specs.Table.{Selects}
use Rattle.decode.specs.Classes.{Names, OnlyMnemonic}
use Rattle.vectors.specs.Examples.{Every}
use Rattle.vectors.specs.Examples as example
use Rattle.witnesses.proofs.Apart.{apart}
use Rattle.witnesses.specs.Reading.{addi}

pub reads : Reads 0x00500093 (addi (pos 5))
reads = record { selected = (refl, refl); operands = refl }

reads_not : Reads 0x00500093 (addi (pos 6)) → ⊥
reads_not r = apart (λ i. int_eq i.immediate (pos 6)) _ _ refl refl r.operands

pub read : Reads 0x00500093 (addi (pos 5)) × (Reads 0x00500093 (addi (pos 6)) → ⊥)
read = (reads, reads_not)

pub decoded : (r : Result Instruction Refusal) → ((i : Instruction) → Reads 0x00500093 i → r ≡ Ok i) → r ≡ Ok (addi (pos 5))
decoded r only = only (addi (pos 5)) reads

pub finds : (reading_of 0x00500093 ≡ Some (addi (pos 5))) × Reads 0x00500093 (addi (pos 5))
unfolding reading_of
finds = (refl, reads)

pub found : (r : Option Action) → r ≡ action_of_word 0x00500093 → r ≡ Some (CompI operation.Add 1 0 5)
unfolding reading_of
found r e = e

pub selected : Selects Addi 0b0010011 0b000 0b1010101 × (Selects Addi 0b0110011 0b000 0b1010101 → ⊥)
selected = ((refl, refl), λ s. apart (λ n. eqb n 0b0110011) 0b0110011 0b0010011 refl refl s.0)

only_load : OnlyMnemonic 0b0000011 0b010 (Ok Lw)
only_load m g s = grind (arith, s)

not_only : OnlyMnemonic 0b0000011 0b010 (Ok Lh) → ⊥
not_only o = grind (arith, o Lw 0 (refl, refl))

pub one_load : OnlyMnemonic 0b0000011 0b010 (Ok Lw) × (OnlyMnemonic 0b0000011 0b010 (Ok Lh) → ⊥)
one_load = (only_load, not_only)

pub load_named : Names 0b0000011 0b010 Immediate (Ok Lw) × (Names 0b0000011 0b010 Immediate (Ok Lh) → ⊥) × (Names 0b0000011 0b010 Store (Ok Lw) → ⊥)
load_named = (
  (λ g. (refl, refl), refl),
  λ n. apart (λ f. eqb f 0b010) 0b010 0b001 refl refl (n.0 0).1,
  λ n. grind (arith, n.1),
)

pub examples : Every (example.reads 0x00500093 (addi (pos 5)) ∷ []) × (Every (example.reads 0x00500093 (addi (pos 5)) ∷ example.reads 0x00500093 (addi (pos 6)) ∷ []) → ⊥)
examples = ((reads, tt), λ e. reads_not e.1.0)
