use Rattle.std.proofs.Common.{◌<◌, ◌≤◌, ℕ, ◌++◌, ap, sym, ◌∙◌, get_or, length, string_bytes}
use Rattle.std.specs.List.{list_all, flat_map}
use Rattle.std.proofs.lemmas.List.{take_all}
use Rattle.std.proofs.lemmas.List.Folds.{list_all_more}
use Rattle.rv32ui_report.specs.Report.{case_passes, case_text, passes_by, way_text, ways}
use Rattle.rv32ui_report.proofs.Growing.{one_more_line}
use Rattle.rv32ui_cases.specs.Cases.{number_of}
use Rattle.rv32ui_cases.specs.declared.program.Program.{Program}
use Rattle.rv32ui_cases.specs.declared.running.Calls.{Calls}
use Rattle.rv32ui_cases.specs.declared.running.Calls.TheVariants.{Steps}
use Rattle.rv32ui_cases.specs.declared.running.Over.{Over}
use Rattle.rv32ui_cases.specs.declared.running.Over.TheVariants.{ByteImage}
use Rattle.rv32ui_report.proofs.suites.passes.Goals as goal

pub loop-way-preserved : goal.loop-way-preserved
loop-way-preserved c =
    let h = c.in_ok-passed_so.ensures in
    let i = c.loop-way.way-index in
    let p = c.program-program.result in
    let name = c.args.suite.now.name.now in
    let first : Over × Calls = (ByteImage, Steps) in
    let within : i < length ways = c.loop-way-test.true in
    record {
      passed = rw (c.loop-way.invariant.passed, h.passed) (sym (list_all_more (passes_by p) ways i first within));
      lines = one_more_line (way_text name (number_of c.args.case) p) ways i first _ _ _ within c.loop-way.invariant.lines
          (h.lines ∙ ap (λ (n : ℕ). string_bytes c.loop-way.text ++ way_text name n p (get_or ways i first)) c.number.ensures);
    }

pub returns-clause-passed : goal.returns-clause-passed
unfolding case_passes
returns-clause-passed c =
    let all : length ways ≤ c.loop-way.way-index = c.loop-way-test.false in
    c.loop-way.invariant.passed ∙ ap (list_all (passes_by c.program-program.result)) (take_all c.loop-way.way-index ways all)
    ∙ ap (λ (p : Program). list_all (passes_by p) ways) c.program-program.ensures

pub returns-clause-lines : goal.returns-clause-lines
unfolding case_text
returns-clause-lines c =
    let all : length ways ≤ c.loop-way.way-index = c.loop-way-test.false in
    let name = c.args.suite.now.name.now in
    let start = string_bytes c.args.text.now in
    c.loop-way.invariant.lines ∙ ap (λ ws. start ++ flat_map (way_text name (number_of c.args.case) c.program-program.result) ws) (take_all c.loop-way.way-index ways all)
    ∙ ap (λ (p : Program). start ++ flat_map (way_text name (number_of c.args.case) p) ways) c.program-program.ensures
