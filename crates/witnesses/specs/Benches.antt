-- Two starts of a bench: over no memory at all, and where one instruction can be carried out.
use Rattle.std.specs.Prelude.{ℕ, replicate, ◌^◌}
use Rattle.std.proofs.lemmas.Nat.{mod_below, pow_pos}
use Rattle.bench.specs.Law.{Start, start_of}
use Rattle.bench.specs.declared.answers.Stepped.{Stepped}
use Rattle.memory.specs.declared.kind.Kind.{Kind}
use Rattle.memory.specs.declared.kind.Kind.TheVariants.{Absent}
use Rattle.witnesses.specs.Machines.{word, words}
use Rattle.witnesses.specs.Memories.{one_open, zeros}

abbrev pub no_words : ℕ → Kind
no_words k = Absent

abbrev pub empty : Start
empty = start_of no_words zeros (λ k. pow_pos 32) (replicate 32 0) 0

abbrev pub one : Start
one = start_of one_open words (λ k. mod_below 0x00500093 (2 ^ 32) (pow_pos 32)) (replicate 32 0) 0

-- the instruction, with so many clocks
abbrev pub made_in : ℕ → Stepped
made_in clocks = record { address = 0; word = word; clocks = clocks }
