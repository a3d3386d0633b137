use Rattle.std.proofs.Common.{◌≡◌, ◌%◌, ◌^◌, length, string_bytes, take}
use Rattle.std.specs.List.{flat_map, sum_by}
use Rattle.rv32ui_report.specs.Report.{suite_passed, suite_text}
use Rattle.rv32ui_report.proofs.suites.report.Given as goal

abbrev pub invariant-loop-suite : goal.invariant-loop-suite
invariant-loop-suite l = record {
  passed : l.passed ≡ sum_by suite_passed (take l.suite-index l.suites) % 2 ^ 64;
  cases : l.cases ≡ sum_by (λ s. length s.cases.now) (take l.suite-index l.suites) % 2 ^ 64;
  lines : string_bytes l.text ≡ flat_map suite_text (take l.suite-index l.suites);
}
