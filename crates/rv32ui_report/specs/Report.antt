-- The report on suites of cases.
use Rattle.std.specs.Prelude.{ℕ, ◌%◌, ◌^◌, Bool, ◌&&◌, ◌==◌, List, [], ◌∷◌, ◌++◌, length, codes, count_by, flat_map, sum_by, if◌then◌else◌}
use Rattle.std.specs.List.{list_all}
use Rattle.rv32ui_report.specs.Lines.{count_of, failure_of}
use Rattle.rv32ui_cases.specs.Cases.{number_of, program_of}
use Rattle.rv32ui_cases.specs.Runs.{expected_of, seen_over}
use Rattle.rv32ui_cases.specs.declared.case.Case.{Case}
use Rattle.rv32ui_cases.specs.declared.program.Program.{Program}
use Rattle.rv32ui_cases.specs.declared.running.Calls.{Calls}
use Rattle.rv32ui_cases.specs.declared.running.Calls.TheVariants.{Steps, Ticks}
use Rattle.rv32ui_cases.specs.declared.running.Over.{Over}
use Rattle.rv32ui_cases.specs.declared.running.Over.TheVariants.{ByteImage, Stack}
use Rattle.rv32ui_cases.specs.declared.running.Seen.{Seen}
use Rattle.rv32ui_cases.specs.declared.suites.Suite.{Suite}

-- every way that a case is run
abbrev pub ways : List (Over × Calls)
ways = (ByteImage, Steps) ∷ (ByteImage, Ticks) ∷ (Stack, Steps) ∷ (Stack, Ticks) ∷ []

-- whether what came is what was expected
unfoldable pub same : Seen → Seen → Bool
same a b = a.pc == b.pc && (a.phase == b.phase && (a.register == b.register && (a.counts.instructions == b.counts.instructions && a.counts.clocks == b.counts.clocks)))

-- whether a program passes in a way, and the line for it if it does not
abbrev pub passes_by : Program → Over × Calls → Bool
passes_by p w = same (seen_over p w.0 w.1) (expected_of p w.0)

abbrev pub way_text : List ℕ → ℕ → Program → Over × Calls → List ℕ
way_text name case p w = if passes_by p w then [] else failure_of name case w.0 w.1 p.register (seen_over p w.0 w.1) (expected_of p w.0)

-- whether a case of a suite passes in every way, and the lines for those in which it does not
unfoldable pub case_passes : Suite → Case → Bool
case_passes s c = list_all (passes_by (program_of c s.mnemonic)) ways

unfoldable pub case_text : Suite → Case → List ℕ
case_text s c = flat_map (way_text s.name.now (number_of c) (program_of c s.mnemonic)) ways

-- the lines of a suite's failures, and the line of how many cases passed
abbrev pub suite_passed : Suite → ℕ
suite_passed s = count_by (case_passes s) s.cases.now

abbrev pub suite_text : Suite → List ℕ
suite_text s = flat_map (case_text s) s.cases.now ++ count_of s.name.now (suite_passed s) (length s.cases.now)

-- the suites, and the line of how many of all cases passed
abbrev pub report_of : List Suite → List ℕ
report_of suites =
    flat_map suite_text suites ++ count_of (codes "all") (sum_by suite_passed suites % 2 ^ 64) (sum_by (λ s. length s.cases.now) suites % 2 ^ 64)
