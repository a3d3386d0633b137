use Rattle.std.proofs.Common.{w64, SFits, rules}
use Rattle.std.proofs.lemmas.Int.{to_z-of_z}
use Rattle.isa.specs.Fitting.{Divides}
use Rattle.encode.proofs.Unique.{even_cut}
use Rattle.encode.proofs.immediates.offset.Goals as goal

pub returns : goal.returns
returns c =
    let f : SFits w64 c.args.z = c.ranges.z in
    let even : Divides 2 c.args.z = search rules in
    even_cut c.cut.result c.args.width c.args.z c.requires.0 even (simp to_z-of_z at c.cut.ensures)
