use Rattle.actions.proofs.Readings.{law_of}
use Rattle.actions.proofs.reading.reading.Goals as goal

pub returns-clause-law : goal.returns-clause-law
returns-clause-law c = law_of c.args.word c.decode.result c.decode.ensures.only c.decode.ensures.reads
