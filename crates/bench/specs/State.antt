-- What a bench holds: the core, the journal, newest first, the two counters, and the meaning of its memory.
use Rattle.std.specs.Prelude.{ℕ, List}
use Rattle.arch1.specs.Datapath.{Datapath}
use Rattle.journal.specs.declared.entry.Entry.{Entry}
use Rattle.memory.specs.declared.interfaces.ReadMemory.{Ghosts}
use Rattle.memory.specs.declared.kind.Kind.{Kind}
use Rattle.bench.specs.declared.bench.Bench.{Bench}

pub record State : Type 0 where
  pub core : Datapath
  pub journal : List Entry
  pub clocks : ℕ
  pub retired : ℕ
  pub kinds : ℕ → Kind
  pub words : ℕ → ℕ

-- the state of a bench over a memory with this meaning
abbrev pub state_of : {M : Type 0} → Ghosts M → Bench M → State
state_of m b = record {
  core = b.core;
  journal = b.journal;
  clocks = b.clocks;
  retired = b.retired;
  kinds = m.kinds b.memory;
  words = m.words b.memory;
}
