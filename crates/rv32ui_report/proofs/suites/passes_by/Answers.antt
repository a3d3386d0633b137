use Rattle.std.proofs.Common.{sym, ◌∙◌}
use Rattle.rv32ui_report.proofs.Growing.{failed}
use Rattle.rv32ui_report.proofs.suites.passes_by.Goals as goal

pub returns-clause-lines : goal.returns-clause-lines
returns-clause-lines c =
    failed c.args.name.now c.args.case c.args.program.now c.args.way c.run-came.result c.expected-expected.result _ _ c.run-came.ensures c.expected-expected.ensures (sym c.same.ensures ∙ c.if-same.false) c.in_ok-write.ensures.bytes
