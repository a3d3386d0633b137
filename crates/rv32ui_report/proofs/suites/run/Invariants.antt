use Rattle.std.proofs.Common.{◌≡◌, ◌≤◌, ◌++◌, string_bytes, take}
use Rattle.std.specs.List.{count_by, flat_map}
use Rattle.rv32ui_report.specs.Report.{case_passes, case_text}
use Rattle.rv32ui_report.proofs.suites.run.Given as goal

abbrev pub invariant-loop-case : goal.invariant-loop-case
invariant-loop-case l = record {
  few : l.passed ≤ l.case-index;
  passed : l.passed ≡ count_by (case_passes l.suite) (take l.case-index l.suite.cases.now);
  lines : string_bytes l.text ≡ string_bytes l.fn.text ++ flat_map (case_text l.suite) (take l.case-index l.suite.cases.now);
}
