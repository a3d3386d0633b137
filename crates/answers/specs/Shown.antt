-- How what was looked at is written.
use Rattle.std.specs.Prelude.{ℕ, ◌/◌, ◌%◌, ◌^◌, List, [], ◌∷◌, ◌++◌, codes, decimal}
use Rattle.assembly.specs.Hexadecimal.{glyph, eight_digits}
use Rattle.bench.specs.declared.look.Look.{Look}
use Rattle.bench.specs.declared.look.Look.TheVariants as look
use Rattle.answers.specs.declared.shown.ShowLine.{ShowLine}
use Rattle.answers.specs.declared.shown.Width.{Width}
use Rattle.answers.specs.declared.shown.Width.TheVariants as width

-- registers and the fields of the core are words
abbrev pub width_of : Look → Width
width_of (look.Register n) = width.Word
width_of (look.Byte address) = width.Byte
width_of look.Pc = width.Word
width_of look.Tr = width.Word
width_of look.Ir = width.Word
width_of look.Dr = width.Word
width_of look.Ar = width.Word
width_of look.Flg = width.Decimal
width_of look.Phase = width.Decimal
width_of look.Clocks = width.Decimal
width_of look.Retired = width.Decimal
width_of look.Journal = width.Decimal

-- the two digits of a number of 8 bits
abbrev pub two_digits : ℕ → List ℕ
two_digits n = glyph (n / 16 % 16) ∷ glyph (n % 16) ∷ []

-- a word in eight hexadecimal digits
abbrev pub word : ℕ → List ℕ
word n = eight_digits (n % 2 ^ 32)

abbrev pub shown_as : Width → ℕ → List ℕ
shown_as width.Word n = word n
shown_as width.Byte n = two_digits (n % 256)
shown_as width.Decimal n = decimal n

-- the counters
abbrev pub counters : ShowLine → List ℕ
counters l = codes " clocks " ++ (decimal l.clocks ++ (codes " retired " ++ (decimal l.retired ++ (codes " journal " ++ (decimal l.journal ++ codes "\n")))))

-- the registers of the datapath
abbrev pub datapath : ShowLine → List ℕ → List ℕ
datapath l rest =
    codes " pc " ++ (word l.pc
    ++ (codes " tr " ++ (word l.tr
    ++ (codes " ir " ++ (word l.ir
    ++ (codes " dr " ++ (word l.dr
    ++ (codes " ar " ++ (word l.ar
    ++ (codes " flg " ++ (decimal l.flg ++ rest)))))))))))

abbrev pub show_line : ShowLine → List ℕ
show_line l = codes "phase " ++ (decimal l.phase ++ datapath l (counters l))
