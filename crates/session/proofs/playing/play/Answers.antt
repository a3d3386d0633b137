use Rattle.session.proofs.Prefixes.{lawful, reached}
use Rattle.session.proofs.playing.play.Goals as goal

pub returns-clause-law : goal.returns-clause-law
returns-clause-law g c = let made = c.make_all-count.ensures in lawful _ _ _ _ _ c.new-bench.ensures.state made.answers made.state

pub returns-clause-reached : goal.returns-clause-reached
returns-clause-reached g c = reached _ _ _ _ (returns-clause-law g c)
