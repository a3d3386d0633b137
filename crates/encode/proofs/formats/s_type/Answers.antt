use Rattle.std.proofs.Common.{w64, SFits, rules, arith}
use Rattle.std.proofs.lemmas.Int.{to_z-of_z, ints}
use Rattle.isa.specs.declared.mnemonic.Format.TheVariants.{Store}
use Rattle.isa.specs.Immediates.{imm_s}
use Rattle.encode.proofs.Unique.{stores, one_word}
use Rattle.encode.proofs.formats.s_type.Goals as goal

pub returns : goal.returns
returns c =
    let i = c.args.i.now in
    let f : SFits w64 i.immediate = search rules in
    let told = c.in_ok-cut.ensures in
    let within = simp to_z-of_z at told.2 in
    let slots = c.store_slots-rd.ensures in
    let word = one_word Store 12 imm_s stores c.args.row i _ _ _ _ _ c.assemble.ensures c.from.ensures c.assemble.type_inv told.0 (simp to_z-of_z at told.1) slots.there (slots.back _) (search rules) in
    record {
      only = word.0;
      written = (word.1, (search rules, search rules, search rules, (omega (arith, ints, within.0), omega (arith, ints, within.1))));
    }
