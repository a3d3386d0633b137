use Rattle.std.proofs.Common.{◌≡◌, ◌+◌}
use Rattle.rv32ui_cases.specs.Memories.{laid_first}
use Rattle.rv32ui_cases.proofs.running.fill.Given as goal

abbrev pub invariant-loop-word : goal.invariant-loop-word
invariant-loop-word g l = let m = g.M.ReadMemory in record {
  place : l.at ≡ l.k + l.word-index;
  kinds : m.kinds l.memory ≡ m.kinds l.fn.memory;
  words : m.words l.memory ≡ laid_first l.word-index (m.kinds l.fn.memory) l.k l.words (m.words l.fn.memory);
}
