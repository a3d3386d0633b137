use Rattle.std.proofs.Common.{◌∙◌, arith}
use Rattle.session.proofs.Prefixes.{made_more}
use Rattle.session.specs.declared.call.Call.TheVariants.{Tick}
use Rattle.session.proofs.playing.make_all.Goals as goal

pub loop-k-preserved : goal.loop-k-preserved
loop-k-preserved g c =
    let inv = c.loop-k.invariant in
    let one = c.make.ensures in
    record {
      made = made_more _ _ _ c.args.calls.now c.loop-k.places c.args.places.now c.loop-k.k Tick c.make.result (omega arith) (omega arith) one.answer one.state inv.made;
      rest = one.rest ∙ inv.rest;
    }
