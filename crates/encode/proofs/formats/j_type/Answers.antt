use Rattle.std.proofs.Common.{◌≡◌, Ok, sym, refl, ap, ◌∙◌, w64, SFits, rules, arith}
use Rattle.std.proofs.lemmas.Int.{to_z-of_z, ints}
use Rattle.bits.specs.Sign.{signed_of}
use Rattle.isa.specs.declared.instruction.Instruction.{Instruction}
use Rattle.isa.specs.declared.mnemonic.Format.TheVariants.{Jump}
use Rattle.isa.specs.Immediates.{imm_j}
use Rattle.encode.proofs.Unique.{same_upper, same_offset, same_operands, below_j}
use Rattle.encode.proofs.formats.j_type.Goals as goal

pub returns : goal.returns
returns c =
    let i = c.args.i.now in
    let x = c.in_ok-offset.field-0 in
    let w = c.assemble_upper.result in
    let made = c.assemble_upper.ensures in
    let told = c.in_ok-offset.ensures in
    let f : SFits w64 i.immediate = search rules in
    let value : signed_of 21 x ≡ i.immediate = simp to_z-of_z at told.1 in
    let back = c.jump_slot.ensures.back w made.upper in
    let within = simp to_z-of_z at told.2 in
    let even = simp to_z-of_z at told.4 in
    record {
      only = λ v k.
          let there = c.jump_slot.ensures.there v (same_offset Jump 21 imm_j (search rules) below_j (λ _. refl) i v x k.operands told.0 value) in
          ap Ok (same_upper w v c.assemble_upper.type_inv k.word (made.opcode ∙ sym k.codes) (made.rd ∙ ap (λ (j : Instruction). j.rd) k.operands) (made.upper ∙ sym there));
      written = (
        record {
          word = c.assemble_upper.type_inv;
          codes = made.opcode;
          operands = same_operands Jump i w (sym made.rd) (search rules) (search rules) (sym (ap (signed_of 21) back ∙ value));
        },
        (search rules, search rules, search rules, ((omega (arith, ints, within.0), omega (arith, ints, within.1, even)), even)),
      );
    }
