use Rattle.std.proofs.Common.{◌≡◌, ◌-◌, ◌^◌, ◌<◌, ap, ◌∙◌, arith, pos, w64, SFits, to_z, of_z, ◌*ℤ◌, nat_abs}
use Rattle.std.proofs.lemmas.Nat.{one_shl}
use Rattle.std.proofs.lemmas.Int.{ints, to_z-of_z}
use Rattle.std.specs.Int.{int_rem_euclid}
use Rattle.bits.proofs.SignExtension.{doubled}
use Rattle.encode.specs.Words.{Within}
use Rattle.encode.proofs.Unique.{residue}
use Rattle.encode.proofs.immediates.cut.Goals as goal

pub returns : goal.returns
returns c =
    let z = c.args.z in
    let width = c.args.width in
    let below : width - 1 < 32 = omega arith in
    let two = doubled width c.requires.0 in
    let half : c.from-half.result ≡ pos (2 ^ (width - 1)) = c.from-half.ensures ∙ ap pos (one_shl (width - 1) 32 below) in
    let within : Within width z = (omega (arith, ints), omega (arith, ints)) in
    let f : SFits w64 z = c.ranges.z in
    let whole : to_z w64 (of_z w64 (pos 2 *ℤ to_z w64 (of_z w64 c.from-half.result))) ≡ pos (2 ^ width) = omega (arith, ints) in
    let value : c.rem_euclid.result ≡ int_rem_euclid z (pos (2 ^ width)) = rw (to_z-of_z w64 z f, whole) at c.rem_euclid.ensures.value in
    let natural : pos (nat_abs (to_z w64 (of_z w64 c.rem_euclid.result))) ≡ c.rem_euclid.result = omega (arith, ints, c.rem_euclid.ensures.lower_bound) in
    let bits = residue width c.requires.0 _ z within (natural ∙ value) in
    (bits.0, bits.1, within)
