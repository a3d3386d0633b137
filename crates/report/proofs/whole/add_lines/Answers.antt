use Rattle.std.proofs.Common.{refl, ◌∙◌, ap, arith}
use mir.Val.{bool_byte}
use Rattle.report.proofs.Appending.{at_most_one, no_words, one_more}
use Rattle.report.proofs.whole.add_lines.Goals as goal

pub loop-word-init : goal.loop-word-init
loop-word-init c = record { few = omega arith; place = omega arith; adds = no_words c.args.base c.args.words.now _ }

pub loop-word-preserved : goal.loop-word-preserved
loop-word-preserved c = let l = c.loop-word in record {
  few = omega (arith, c.from-instructions.ensures, at_most_one c.is_ok.result);
  place = omega arith;
  adds = one_more c.args.words.now _ l.word-index l.address _ _ _ _ _ _ c.decode-reading.result c.decode-reading.ensures.reads (omega arith) (omega arith) l.invariant.place
      refl c.in_ok-write.ensures.bytes (c.from-instructions.ensures ∙ ap bool_byte c.is_ok.ensures.value) l.invariant.adds;
}
