use Rattle.std.proofs.Common.{◌≡◌, ◌*◌, ◌^◌, ◌≤◌, drop}
use Rattle.session.specs.Lists.{standing}
use Rattle.session.proofs.counting.standing.Given as goal

-- the answers that are left come to what all come to
abbrev pub invariant-loop-answer : goal.invariant-loop-answer
invariant-loop-answer l = record {
  left : standing l.n (drop l.answer-index l.answers) ≡ standing 0 l.answers;
  few : l.n ≤ l.answer-index * 2 ^ 32;
}
