use Rattle.std.proofs.Common.{◌≡◌, ◌-◌, ◌≤◌, ◌++◌, string_bytes}
use Rattle.arch1.specs.Refinement.{rig}
use Rattle.clock_table.specs.Shown.{shown, shown_from}
use Rattle.clock_table.proofs.clocks.show.Given as goal

-- the text so far and that of the clocks that are left make the whole
abbrev pub invariant-loop-clocks : goal.invariant-loop-clocks
invariant-loop-clocks g l = let m = g.M.ReadMemory in record {
  few : l.instructions ≤ l.clocks;
  so_far : string_bytes l.text ++ shown_from (m.kinds l.initial.memory) (l.most - l.clocks) l.limit l.clocks l.instructions (rig l.core (m.words l.memory))
      ≡ shown (m.kinds l.initial.memory) l.most l.limit (rig l.initial.core (m.words l.initial.memory));
  kinds : m.kinds l.memory ≡ m.kinds l.initial.memory;
}
