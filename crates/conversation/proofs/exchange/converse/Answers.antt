use Rattle.std.proofs.Common.{true, refl, ◌∙◌}
use Rattle.bench.specs.State.{state_of}
use Rattle.conversation.proofs.Kept.{stays_same, stays_on}
use Rattle.conversation.proofs.Turns.{begun, turned, stopped_now}
use Rattle.conversation.proofs.exchange.converse.Goals as goal

pub loop-init : goal.loop-init
loop-init g c = record {
  said = begun (g.R.Read.remaining c.args.input.now) (g.W.Write.contents c.args.output.now) (state_of g.M.ReadMemory c.args.bench.now);
  rest = refl;
  law = stays_same _;
}

pub loop-preserved : goal.loop-preserved
loop-preserved g c = let one = c.in_ok-turn.ensures.said in record {
  said = turned true (g.R.Read.remaining c.args.input.now) (g.R.Read.remaining c.loop.input) (g.R.Read.remaining c.turn.new.input)
      (g.W.Write.contents c.args.output.now) (g.W.Write.contents c.loop.output) (g.W.Write.contents c.turn.new.output)
      (state_of g.M.ReadMemory c.args.bench.now) (state_of g.M.ReadMemory c.loop.bench) (state_of g.M.ReadMemory c.turn.new.bench)
      c.loop.invariant.said (rw c.if-not-branch.false at one);
  rest = c.turn.ensures.rest ∙ c.loop.invariant.rest;
  law = stays_on _ _ _ c.loop.invariant.law c.turn.ensures.law;
}

pub returns-clause-stopped : goal.returns-clause-stopped
returns-clause-stopped g c =
    stopped_now (g.R.Read.remaining c.args.input.now) (g.R.Read.remaining c.loop.input) (g.W.Write.contents c.args.output.now) (g.W.Write.contents c.loop.output)
    (state_of g.M.ReadMemory c.args.bench.now) (state_of g.M.ReadMemory c.loop.bench) c.loop.invariant.said
