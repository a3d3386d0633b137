use Rattle.std.proofs.Common.{ap, ◌∙◌}
use Rattle.arch1.specs.Datapath.{Datapath}
use Rattle.clock_table.specs.Lines.{bit_of}
use Rattle.clock_table.proofs.Turns.{counted}
use Rattle.clock_table.proofs.lines.ClockLineDisplay.fmt.Goals as goal

pub returns-clause-writes : goal.returns-clause-writes
returns-clause-writes g c =
    let phase = c.number-phase.ensures in
    let flg = c.from-flg.ensures ∙ counted c.core.inside.flg ∙ ap (λ (d : Datapath). bit_of d.flg) c.core.view_is in
    rw (← phase, ← flg) c.writeln.ensures.writes
