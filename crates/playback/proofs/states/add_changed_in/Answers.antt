use Rattle.std.proofs.Common.{◌≡◌, suc, ◌+◌, ◌-◌, arith}
use Rattle.playback.proofs.Growing.{grown, ended}
use Rattle.playback.proofs.states.add_changed_in.Goals as goal

pub loop-preserved : goal.loop-preserved
loop-preserved g c =
    let l = c.loop in
    let one : c.args.span.length - l.counter ≡ suc (c.args.span.length - (l.counter + 1)) = omega arith in
    grown _ _ _ _ _ c.in_ok-add_changed.ensures (rw one at l.invariant)

pub returns : goal.returns
returns g c =
    let l = c.loop in
    let none : c.args.span.length - l.counter ≡ 0 = omega arith in
    ended _ _ (rw none at l.invariant)
