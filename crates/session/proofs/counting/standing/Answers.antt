use Rattle.std.proofs.Common.{◌∙◌, ◌+◌, ℕ, List, drop, sym, ap, arith}
use Rattle.std.proofs.lemmas.List.{at_drop_more, at_drop_all}
use Rattle.session.specs.Lists.{standing}
use Rattle.session.specs.declared.call.Answer.{Answer}
use Rattle.session.proofs.counting.standing.Goals as goal

pub counted-n-requires : goal.counted-n-requires
counted-n-requires c = let few = c.loop-answer.invariant.few in omega arith

pub loop-answer-preserved : goal.loop-answer-preserved
loop-answer-preserved c =
    let l = c.loop-answer in let one = c.counted-n.ensures in let all = c.args.answers.now in
    record {
      left = ap (λ (n : ℕ). standing n (drop (l.answer-index + 1) all)) one.value ∙ sym (at_drop_more (λ (xs : List Answer). standing l.n xs) all l.answer-index _ (omega arith)) ∙ l.invariant.left;
      few = omega (arith, one.few, l.invariant.few);
    }

pub returns : goal.returns
returns c = let l = c.loop-answer in sym (at_drop_all (λ (xs : List Answer). standing l.n xs) c.args.answers.now l.answer-index (omega arith)) ∙ l.invariant.left
