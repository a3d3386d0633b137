use Rattle.std.proofs.Common.{rules}
use Rattle.commands.proofs.Table.{reads}
use Rattle.commands.proofs.reading.read_line.Goals as goal

pub returns-clause-law : goal.returns-clause-law
returns-clause-law c = search (rules, reads)
