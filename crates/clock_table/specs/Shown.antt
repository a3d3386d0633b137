-- The text of the clocks of a core: a line for each, then the line of the counts or of the refused clock.
use Rattle.std.specs.Prelude.{ℕ, zero, suc, ◌+◌, cond, List, ◌++◌, Ok, Err, Result, nat_lt}
use Rattle.memory.specs.declared.kind.Kind.{Kind}
use Rattle.arch1.specs.Refinement.{Rig, ticked, answer}
use Rattle.arch1.specs.declared.phase.CoreFault.{CoreFault}
use Rattle.arch1.specs.declared.phase.Ticked.{Ticked}
use Rattle.clock_table.specs.Lines.{head_of, bit_of, clock_of, counts_of, fault_of}

-- after a clock that answered this: its line and the text that follows, by the instructions retired; or the line of the refused clock
abbrev pub shown_on : Result Ticked CoreFault → List ℕ → ℕ → ℕ → (ℕ → List ℕ) → List ℕ
shown_on (Ok t) line clocks instructions next = line ++ next (instructions + bit_of t.retired)
shown_on (Err f) line clocks instructions next = fault_of f clocks instructions

-- at most k clocks more, over a memory of the kinds K, while fewer instructions than the limit have retired;
-- the numbers after the limit are how many clocks were made and instructions retired before
unfoldable pub shown_from : (ℕ → Kind) → ℕ → ℕ → ℕ → ℕ → Rig → List ℕ
shown_from K zero limit clocks instructions s = counts_of clocks instructions
shown_from K (suc k) limit clocks instructions s =
    cond (nat_lt instructions limit)
    (shown_on (answer K s) (clock_of s.core.phase (ticked K s).core) clocks instructions (λ n. shown_from K k limit (clocks + 1) n (ticked K s)))
    (counts_of clocks instructions)

-- the names of the columns, and then at most k clocks
abbrev pub shown : (ℕ → Kind) → ℕ → ℕ → Rig → List ℕ
shown K k limit s = head_of ++ shown_from K k limit 0 0 s
