use Rattle.session.proofs.Steps.{replays}
use Rattle.session.proofs.replaying.replay.Goals as goal

pub returns-clause-law : goal.returns-clause-law
returns-clause-law g c =
    replays _ _ _ _ _ _ _ _ _ _ c.play-played.ensures.law c.play-played.ensures.reached c.standing-standing.ensures c.close.ensures.state c.new-straight.ensures.state c.run_straight.ensures.state c.close-2.ensures.state
