use Rattle.std.proofs.Common.{List, ℕ, ◌≡◌, ◌+◌, ◌/◌, length, IfOk, subst, arith, rules}
use Rattle.std.proofs.lemmas.Iterator.{YieldsList-from_range, YieldsList-from_map, items_from_collect}
use Rattle.word_listing.proofs.PlacedImage.{held, all_shown}
use Rattle.word_listing.proofs.words.image_words.Goals as goal

pub returns : goal.returns
returns c =
    let image = c.args.file.image.now in
    let first = c.args.file.base / 4 in
    subst (λ (words : List ℕ). IfOk c.collect.result (λ v. v.items ≡ words)) (all_shown first image (omega arith))
    (items_from_collect _ c.collect.ensures.ran
    (YieldsList-from_map _ (held first image) (YieldsList-from_range first (first + length image / 4) (length image / 4) (search rules) (omega arith)) c.map.ensures.closure (λ x r q k. search rules)))
