use Rattle.commands.proofs.Splitting.{parts_split}
use Rattle.commands.proofs.lines.split_line.Goals as goal

pub returns-clause-law : goal.returns-clause-law
returns-clause-law c = parts_split c.args.text.now c.cut.result (λ p. p.0.now) (λ p. p.1.now) _ c.cut.ensures
