-- The lines of the report. Byte 10 ends each.
use Rattle.std.specs.Prelude.{ℕ, List, ◌++◌, codes, decimal, false}
use Rattle.std.specs.Fmt.{digits}
use Rattle.rv32ui_cases.specs.declared.program.Counts.{Counts}
use Rattle.rv32ui_cases.specs.declared.running.Calls.{Calls}
use Rattle.rv32ui_cases.specs.declared.running.Calls.TheVariants.{Steps, Ticks}
use Rattle.rv32ui_cases.specs.declared.running.Over.{Over}
use Rattle.rv32ui_cases.specs.declared.running.Over.TheVariants.{ByteImage, Stack}
use Rattle.rv32ui_cases.specs.declared.running.Seen.{Seen}

-- how many of so many cases passed
abbrev pub count_of : List ℕ → ℕ → ℕ → List ℕ
count_of name passed cases = name ++ (codes " " ++ (decimal passed ++ (codes " of " ++ (decimal cases ++ codes "\n"))))

-- a number in lower-case hexadecimal digits behind 0x, without leading zeros
unfoldable pub hexadecimal : ℕ → List ℕ
hexadecimal n = codes "0x" ++ digits 16 false n

-- how many instructions retired, in how many clocks
abbrev pub counts_text : Counts → List ℕ
counts_text n = decimal n.instructions ++ (codes " instructions, " ++ (decimal n.clocks ++ codes " clocks"))

-- what a bench shows, with the number of the case's register
abbrev pub seen_text : ℕ → Seen → List ℕ
seen_text register s =
    codes "x" ++ (decimal register ++ (codes " = " ++ (hexadecimal s.register ++ (codes ", PC = " ++ (hexadecimal s.pc ++ (codes " in T" ++ (decimal s.phase ++ (codes ", " ++ counts_text s.counts))))))))

abbrev pub over_text : Over → List ℕ
over_text ByteImage = codes "a byte image"
over_text Stack = codes "a stack"

abbrev pub calls_text : Calls → List ℕ
calls_text Steps = codes "steps"
calls_text Ticks = codes "ticks"

-- a case that failed: what came, and what was expected
abbrev pub failure_of : List ℕ → ℕ → Over → Calls → ℕ → Seen → Seen → List ℕ
failure_of name case o c register came expected =
    name ++ (codes " " ++ (decimal case ++ (codes " on " ++ (over_text o ++ (codes " by " ++ (calls_text c ++ (codes ": " ++ (seen_text register came ++ (codes "; expected " ++ (seen_text register expected ++ codes "\n"))))))))))
