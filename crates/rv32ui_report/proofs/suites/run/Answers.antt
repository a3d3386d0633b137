use Rattle.std.proofs.Common.{arith}
use Rattle.rv32ui_report.specs.Report.{case_passes, case_text}
use Rattle.rv32ui_report.proofs.Growing.{at_most_one, one_more_counted, one_more_line}
use Rattle.rv32ui_report.proofs.suites.run.Goals as goal

pub loop-case-preserved : goal.loop-case-preserved
loop-case-preserved c =
    let h = c.in_ok-case_passed.ensures in
    let suite = c.args.suite.now in
    record {
      few = omega (arith, c.from-passed.ensures, at_most_one c.in_ok-case_passed.case_passed, c.loop-case.invariant.few);
      passed = one_more_counted (case_passes suite) suite.cases.now c.loop-case.case-index _ _ _ _ c.loop-case-test.true c.loop-case.invariant.passed h.passed c.from-passed.ensures;
      lines = one_more_line (case_text suite) suite.cases.now c.loop-case.case-index _ _ _ _ c.loop-case-test.true c.loop-case.invariant.lines h.lines;
    }
