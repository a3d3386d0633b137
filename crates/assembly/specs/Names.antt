-- The names of the mnemonics, as assemblers write them.
use Rattle.std.specs.Prelude.{ℕ, List, codes}
use Rattle.isa.specs.declared.mnemonic.Mnemonic.{Mnemonic}
use Rattle.isa.specs.declared.mnemonic.Mnemonic.TheVariants.{Add, Sub, Sll, Slt, Sltu, Xor, Srl, Sra, Or, And}
use Rattle.isa.specs.declared.mnemonic.Mnemonic.TheVariants.{Addi, Slli, Slti, Sltiu, Xori, Srli, Srai, Ori, Andi}
use Rattle.isa.specs.declared.mnemonic.Mnemonic.TheVariants.{Lui, Auipc, Lb, Lh, Lw, Lbu, Lhu, Sb, Sh, Sw, Jal, Jalr}
use Rattle.isa.specs.declared.mnemonic.Mnemonic.TheVariants.{Beq, Bne, Blt, Bge, Bltu, Bgeu}

abbrev pub name_of : Mnemonic → List ℕ
name_of Add = codes "add"
name_of Sub = codes "sub"
name_of Sll = codes "sll"
name_of Slt = codes "slt"
name_of Sltu = codes "sltu"
name_of Xor = codes "xor"
name_of Srl = codes "srl"
name_of Sra = codes "sra"
name_of Or = codes "or"
name_of And = codes "and"
name_of Addi = codes "addi"
name_of Slli = codes "slli"
name_of Slti = codes "slti"
name_of Sltiu = codes "sltiu"
name_of Xori = codes "xori"
name_of Srli = codes "srli"
name_of Srai = codes "srai"
name_of Ori = codes "ori"
name_of Andi = codes "andi"
name_of Lui = codes "lui"
name_of Auipc = codes "auipc"
name_of Lb = codes "lb"
name_of Lh = codes "lh"
name_of Lw = codes "lw"
name_of Lbu = codes "lbu"
name_of Lhu = codes "lhu"
name_of Sb = codes "sb"
name_of Sh = codes "sh"
name_of Sw = codes "sw"
name_of Jal = codes "jal"
name_of Jalr = codes "jalr"
name_of Beq = codes "beq"
name_of Bne = codes "bne"
name_of Blt = codes "blt"
name_of Bge = codes "bge"
name_of Bltu = codes "bltu"
name_of Bgeu = codes "bgeu"
