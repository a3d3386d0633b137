use Rattle.std.proofs.Common.{ℕ, ◌+◌, ◌^◌, ◌∙◌}
use Rattle.layers.specs.Placed.{placed_kinds, placed_words}
use Rattle.layers.specs.Shield.{shield_kinds}
use Rattle.memory.specs.declared.kind.Kind.{Kind}
use Rattle.rv32ui_cases.specs.Runs.{run_over}
use Rattle.rv32ui_cases.proofs.Loading.{in_both}
use Rattle.rv32ui_cases.proofs.running.drive_stack.Goals as goal

pub returns-clause-shown : goal.returns-clause-shown
returns-clause-shown g c =
    c.drive.ensures
    ∙ in_both (λ (k : ℕ → Kind) (w : ℕ → ℕ). run_over c.args.program.now c.args.calls (2 ^ 31) (shield_kinds 0 (2 ^ 29 + 64) (placed_kinds (2 ^ 29) k)) (placed_words (2 ^ 29) w)) c.load.ensures.kinds c.load.ensures.words
