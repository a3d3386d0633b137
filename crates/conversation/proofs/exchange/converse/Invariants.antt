use Rattle.std.proofs.Common.{◌≡◌, true, IfSome}
use Rattle.bench.specs.State.{state_of}
use Rattle.conversation.specs.Conversations.{StaysLawful, Turn}
use Rattle.conversation.proofs.exchange.converse.Given as goal

abbrev pub invariant-loop : goal.invariant-loop
invariant-loop g l = record {
  said : IfSome (g.R.Read.remaining l.initial.input)
      (λ bytes. Turn true (state_of g.M.ReadMemory l.initial.bench) (state_of g.M.ReadMemory l.bench) bytes (g.R.Read.remaining l.input) (g.W.Write.contents l.initial.output) (g.W.Write.contents l.output));
  rest : g.M.WriteMemory.rest l.bench.memory ≡ g.M.WriteMemory.rest l.initial.bench.memory;
  law : StaysLawful (state_of g.M.ReadMemory l.initial.bench) (state_of g.M.ReadMemory l.bench);
}
