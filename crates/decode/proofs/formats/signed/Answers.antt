use Rattle.std.proofs.Common.{◌≡◌, ap, ◌∙◌, mod-eq_of_lt, div-one, arith, w32, to_z}
use Rattle.std.proofs.lemmas.Int.{ints}
use Rattle.bits.specs.Field.{field}
use Rattle.bits.specs.Sign.{extended, signed_of}
use Rattle.bits.proofs.SignExtension.{keeps_number}
use Rattle.decode.proofs.formats.signed.Goals as goal

pub returns : goal.returns
returns c =
    let whole : field 0 c.args.width c.args.x ≡ c.args.x = rw div-one (mod-eq_of_lt c.requires.1.1) in
    let here : c.cast_signed.result ≡ signed_of c.args.width c.args.x = c.cast_signed.ensures ∙ ap (to_z w32) (c.sign_extend.ensures ∙ ap (extended c.args.width) whole) ∙ keeps_number c.args.width c.args.x c.requires.0 c.requires.1.0 c.requires.1.1 in
    omega (arith, ints) ∙ here
