use Rattle.std.proofs.Common.{◌≡◌, ◌++◌, string_bytes, take}
use Rattle.std.specs.List.{list_all, flat_map}
use Rattle.rv32ui_report.specs.Report.{passes_by, way_text, ways}
use Rattle.rv32ui_cases.specs.Cases.{number_of}
use Rattle.rv32ui_report.proofs.suites.passes.Given as goal

abbrev pub invariant-loop-way : goal.invariant-loop-way
invariant-loop-way l = record {
  passed : l.passed ≡ list_all (passes_by l.program) (take l.way-index ways);
  lines : string_bytes l.text ≡ string_bytes l.fn.text ++ flat_map (way_text l.suite.name.now (number_of l.case) l.program) (take l.way-index ways);
}
