-- The lines of a trace. Byte 10 ends each.
use Rattle.std.specs.Prelude.{ℕ, List, ◌++◌, Some, None, Option, codes, decimal}
use Rattle.assembly.specs.Hexadecimal.{eight_digits}
use Rattle.bench.specs.Numbers.{stop_number}
use Rattle.bench.specs.declared.answers.Stop.{Stop}

-- the address of an instruction, its word, and how many clocks it took
abbrev pub step_of : ℕ → ℕ → ℕ → List ℕ
step_of address word clocks = eight_digits address ++ (codes " " ++ (eight_digits word ++ (codes " " ++ (decimal clocks ++ codes "\n"))))

-- the number of a refusal, and 0 where nothing was refused
abbrev pub number_of : Option Stop → ℕ
number_of None = 0
number_of (Some stop) = stop_number stop

-- the number of the refusal, PC, and both counters
abbrev pub stop_of : ℕ → ℕ → ℕ → ℕ → List ℕ
stop_of number pc instructions clocks =
    codes "stop "
    ++ (decimal number
    ++ (codes " at " ++ (eight_digits pc ++ (codes " after " ++ (decimal instructions ++ (codes " instructions and " ++ (decimal clocks ++ codes " clocks\n")))))))
