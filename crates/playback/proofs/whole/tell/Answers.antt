use Rattle.playback.proofs.Telling.{told}
use Rattle.playback.proofs.whole.tell.Goals as goal

pub returns : goal.returns
returns g c =
    told c.args.calls.now c.args.answers.now c.args.standing _ _ _ _ _ _ _ _ c.new-text.ensures.bytes c.in_ok-add_calls.ensures c.in_ok-by_calls.ensures c.in_ok-by_steps.ensures c.eq.ensures c.in_ok-write.ensures.bytes
