use Rattle.std.proofs.Common.{◌≡◌, suc, ◌+◌, ◌-◌, arith}
use Rattle.playback.proofs.Growing.{grown, ended}
use Rattle.playback.proofs.states.add_registers.Goals as goal

pub loop-n-preserved : goal.loop-n-preserved
loop-n-preserved g c =
    let l = c.loop-n in
    let one : 32 - l.n ≡ suc (32 - (l.n + 1)) = omega arith in
    grown _ _ _ _ _ c.in_ok-add_look.ensures (rw one at l.invariant)

pub returns : goal.returns
returns g c =
    let l = c.loop-n in
    let none : 32 - l.n ≡ 0 = omega arith in
    ended _ _ (rw none at l.invariant)
