-- The table of the instructions, as the manual lists them: class, format, opcode, funct3 and funct7 of each mnemonic.
use Rattle.std.specs.Prelude.{◌≡◌, ℕ, ◌^◌, Bool, ◌&&◌, nat_lt, IsTrue, refl}
use Rattle.std.proofs.lemmas.Bool.{and_parts, ltb-true}
use Rattle.isa.specs.declared.table.Row.{Row}
use Rattle.isa.specs.declared.mnemonic.Class.{Class}
use Rattle.isa.specs.declared.mnemonic.Class.TheVariants.{Comp, CompI, Ld, St, Br}
use Rattle.isa.specs.declared.mnemonic.Class.TheVariants.{Lui as LUI, Auipc as AUIPC, Jal as JAL, Jalr as JALR}
use Rattle.isa.specs.declared.mnemonic.Format.{Format}
use Rattle.isa.specs.declared.mnemonic.Format.TheVariants.{Register, Immediate, Shift, Store, Branch, Upper, Jump}
use Rattle.isa.specs.declared.mnemonic.Mnemonic.{Mnemonic}
use Rattle.isa.specs.declared.mnemonic.Mnemonic.TheVariants.{Add, Sub, Sll, Slt, Sltu, Xor, Srl, Sra, Or, And}
use Rattle.isa.specs.declared.mnemonic.Mnemonic.TheVariants.{Addi, Slli, Slti, Sltiu, Xori, Srli, Srai, Ori, Andi}
use Rattle.isa.specs.declared.mnemonic.Mnemonic.TheVariants.{Lui, Auipc, Lb, Lh, Lw, Lbu, Lhu, Sb, Sh, Sw, Jal, Jalr}
use Rattle.isa.specs.declared.mnemonic.Mnemonic.TheVariants.{Beq, Bne, Blt, Bge, Bltu, Bgeu}

-- whether each code is one of its field: opcode and funct7 have seven bits and funct3 has three
abbrev codes_fit : ℕ → ℕ → ℕ → Bool
codes_fit o f g = nat_lt o (2 ^ 7) && (nat_lt f (2 ^ 3) && nat_lt g (2 ^ 7))

abbrev entry : Class → Format → (o f g : ℕ) → IsTrue (codes_fit o f g) → Row
entry c t o f g fit =
    let parts = and_parts (nat_lt o (2 ^ 7)) (nat_lt f (2 ^ 3) && nat_lt g (2 ^ 7)) fit in
    let rest = and_parts (nat_lt f (2 ^ 3)) (nat_lt g (2 ^ 7)) parts.1 in
    record {
      class = c;
      format = t;
      opcode = o;
      funct3 = f;
      funct7 = g;
      opcode_fits = ltb-true o (2 ^ 7) parts.0;
      funct3_fits = ltb-true f (2 ^ 3) rest.0;
      funct7_fits = ltb-true g (2 ^ 7) rest.1;
    }

-- 0 stands where the format has no such field; at the end of a row, that its codes fit, as the test computes
abbrev pub row_of : Mnemonic → Row
--                  class format    opcode    funct3 funct7
row_of Add = entry Comp Register 0b0110011 0b000 0b0000000 refl
row_of Sub = entry Comp Register 0b0110011 0b000 0b0100000 refl
row_of Sll = entry Comp Register 0b0110011 0b001 0b0000000 refl
row_of Slt = entry Comp Register 0b0110011 0b010 0b0000000 refl
row_of Sltu = entry Comp Register 0b0110011 0b011 0b0000000 refl
row_of Xor = entry Comp Register 0b0110011 0b100 0b0000000 refl
row_of Srl = entry Comp Register 0b0110011 0b101 0b0000000 refl
row_of Sra = entry Comp Register 0b0110011 0b101 0b0100000 refl
row_of Or = entry Comp Register 0b0110011 0b110 0b0000000 refl
row_of And = entry Comp Register 0b0110011 0b111 0b0000000 refl
row_of Addi = entry CompI Immediate 0b0010011 0b000 0 refl
row_of Slli = entry CompI Shift 0b0010011 0b001 0b0000000 refl
row_of Slti = entry CompI Immediate 0b0010011 0b010 0 refl
row_of Sltiu = entry CompI Immediate 0b0010011 0b011 0 refl
row_of Xori = entry CompI Immediate 0b0010011 0b100 0 refl
row_of Srli = entry CompI Shift 0b0010011 0b101 0b0000000 refl
row_of Srai = entry CompI Shift 0b0010011 0b101 0b0100000 refl
row_of Ori = entry CompI Immediate 0b0010011 0b110 0 refl
row_of Andi = entry CompI Immediate 0b0010011 0b111 0 refl
row_of Lui = entry LUI Upper 0b0110111 0 0 refl
row_of Auipc = entry AUIPC Upper 0b0010111 0 0 refl
row_of Lb = entry Ld Immediate 0b0000011 0b000 0 refl
row_of Lh = entry Ld Immediate 0b0000011 0b001 0 refl
row_of Lw = entry Ld Immediate 0b0000011 0b010 0 refl
row_of Lbu = entry Ld Immediate 0b0000011 0b100 0 refl
row_of Lhu = entry Ld Immediate 0b0000011 0b101 0 refl
row_of Sb = entry St Store 0b0100011 0b000 0 refl
row_of Sh = entry St Store 0b0100011 0b001 0 refl
row_of Sw = entry St Store 0b0100011 0b010 0 refl
row_of Jal = entry JAL Jump 0b1101111 0 0 refl
row_of Jalr = entry JALR Immediate 0b1100111 0b000 0 refl
row_of Beq = entry Br Branch 0b1100011 0b000 0 refl
row_of Bne = entry Br Branch 0b1100011 0b001 0 refl
row_of Blt = entry Br Branch 0b1100011 0b100 0 refl
row_of Bge = entry Br Branch 0b1100011 0b101 0 refl
row_of Bltu = entry Br Branch 0b1100011 0b110 0 refl
row_of Bgeu = entry Br Branch 0b1100011 0b111 0 refl

-- a row agrees with opcode o, funct3 f and funct7 g in the fields that its format has
abbrev pub Agrees : Format → Row → ℕ → ℕ → ℕ → Type 0
Agrees Register r o f g = (o ≡ r.opcode) × (f ≡ r.funct3) × (g ≡ r.funct7)
Agrees Immediate r o f g = (o ≡ r.opcode) × (f ≡ r.funct3)
Agrees Shift r o f g = (o ≡ r.opcode) × (f ≡ r.funct3) × (g ≡ r.funct7)
Agrees Store r o f g = (o ≡ r.opcode) × (f ≡ r.funct3)
Agrees Branch r o f g = (o ≡ r.opcode) × (f ≡ r.funct3)
Agrees Upper r o f g = o ≡ r.opcode
Agrees Jump r o f g = o ≡ r.opcode

-- the codes o, f and g are those of the mnemonic m
abbrev pub Selects : Mnemonic → ℕ → ℕ → ℕ → Type 0
Selects m o f g = Agrees (row_of m).format (row_of m) o f g
