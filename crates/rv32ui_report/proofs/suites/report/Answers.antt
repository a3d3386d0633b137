use Rattle.std.proofs.Common.{[], length, refl}
use Rattle.rv32ui_report.specs.Report.{suite_passed, suite_text}
use Rattle.rv32ui_report.proofs.Growing.{one_more_line, one_more_summed}
use Rattle.rv32ui_cases.specs.declared.suites.Suite.{Suite}
use Rattle.rv32ui_report.proofs.suites.report.Goals as goal

pub loop-suite-preserved : goal.loop-suite-preserved
loop-suite-preserved c =
    let h = c.in_ok-suite_passed.ensures in
    let i = c.loop-suite.suite-index in
    record {
      passed = one_more_summed suite_passed c.args.suites.now i _ _ _ c.loop-suite-test.true c.loop-suite.invariant.passed h.passed;
      cases = one_more_summed (λ (s : Suite). length s.cases.now) c.args.suites.now i _ _ _ c.loop-suite-test.true c.loop-suite.invariant.cases refl;
      lines = one_more_line suite_text c.args.suites.now i _ [] _ _ c.loop-suite-test.true c.loop-suite.invariant.lines h.lines;
    }
