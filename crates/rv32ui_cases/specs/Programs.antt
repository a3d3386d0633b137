-- Programs, put together step by step. A step makes a program of a program.
use Rattle.std.specs.Prelude.{ℕ, zero, suc, ◌+◌, ◌-◌, ◌*◌, ◌/◌, ◌%◌, ◌^◌, cond, ltb, List, [], ◌∷◌, set, replicate, ℤ, pos}
use Rattle.std.specs.Int.{cast_signed, w32}
use Rattle.arch1.specs.Owes.{clocks_of_class}
use Rattle.bits.specs.Field.{field}
use Rattle.bits.specs.Sign.{extended}
use Rattle.isa.specs.Table.{row_of}
use Rattle.isa.specs.declared.instruction.Instruction.{Instruction}
use Rattle.isa.specs.declared.mnemonic.Class.{Class}
use Rattle.isa.specs.declared.mnemonic.Mnemonic.{Mnemonic}
use Rattle.isa.specs.declared.mnemonic.Mnemonic.TheVariants.{Auipc, Lui}
use Rattle.rv32ui_cases.specs.Instructions.{addi, bne, jal, upper}
use Rattle.rv32ui_cases.specs.Words.{word_of}
use Rattle.rv32ui_cases.specs.declared.program.Counts.{Counts}
use Rattle.rv32ui_cases.specs.declared.program.Program.{Program}

-- so many more instructions of a class, each with the clocks of the class; the counters count modulo 2 ^ 64
abbrev pub counted : Class → ℕ → Counts → Counts
counted k runs c = record { instructions = (c.instructions + runs) % 2 ^ 64; clocks = (c.clocks + runs * clocks_of_class k) % 2 ^ 64 }

-- the words of a program with word v in the place that is so many bytes from the start, if there is one
abbrev pub with_word : ℕ → ℕ → List ℕ → List ℕ
with_word place v words = cond (ltb (place / 4) 64) (set words (place / 4) v) words

-- so many bytes behind the start of the data, which follows the 64 words
abbrev pub in_data : ℕ → ℕ
in_data base = (256 + base) % 2 ^ 32

-- an instruction at the end, which the published path jumps over
unfoldable pub put_skipped : Instruction → Program → Program
put_skipped i p = record p { words = with_word p.end (word_of i) p.words; end = (p.end + 4) % 2 ^ 32 }

-- an instruction at the end, which it runs
unfoldable pub put : Instruction → Program → Program
put i p = record (put_skipped i p) { counts = counted (row_of i.mnemonic).class p.runs p.counts }

-- a number as the upper twenty bits that LUI and AUIPC take, and as what ADDI then adds
abbrev pub low_of : ℕ → ℕ
low_of n = extended 12 (field 0 12 n)

abbrev pub high_of : ℕ → ℕ
high_of n = (n + (2 ^ 32 - low_of n)) % 2 ^ 32

-- a number by its two parts, of which the instruction m puts the upper one into the register, or adds it to PC
unfoldable pub put_parts : Mnemonic → ℕ → ℕ → Program → Program
put_parts m rd n p = put (addi rd rd (cast_signed w32 (low_of n))) (put (upper m rd (pos (high_of n))) p)

-- loads a number, and the address of a place
abbrev pub li : ℕ → ℕ → Program → Program
li = put_parts Lui

unfoldable pub la : ℕ → ℕ → Program → Program
la rd place p = put_parts Auipc rd ((place + (2 ^ 32 - p.end)) % 2 ^ 32) p

-- a step so many times
unfoldable pub times : ℕ → (Program → Program) → Program → Program
times zero step p = p
times (suc n) step p = step (times n step p)

abbrev pub nops : ℕ → Program → Program
nops n = times n (put (addi 0 0 (pos 0)))

-- from one place to another
abbrev pub offset : ℕ → ℕ → ℤ
offset from to = cast_signed w32 ((to + (2 ^ 32 - from)) % 2 ^ 32)

-- the place so many instructions further on
unfoldable pub ahead : ℕ → Program → ℕ
ahead k p = (p.end + k * 4 % 2 ^ 32) % 2 ^ 32

-- from the end to where the checks that fail go to, and what is put by this offset
unfoldable pub to_fail : Program → ℤ
to_fail p = offset p.end 0

abbrev pub failing : (ℤ → Program → Program) → Program → Program
failing step p = step (to_fail p) p

-- the program is about this register, which holds the value at the end
abbrev pub about : ℕ → ℕ → Program → Program
about r v p = record p { register = r; value = v }

-- the published check of a result
unfoldable pub check : ℕ → ℕ → Program → Program
check r v p = about r v (failing (λ z. put (bne r 7 z)) (li 7 v p))

-- steps one after another
abbrev pub in_turn : List (Program → Program) → Program → Program
in_turn [] p = p
in_turn (step ∷ steps) p = in_turn steps (step p)

-- the begin of a loop, whose steps run twice, and its end, which branches to where it began
unfoldable pub twice : Program → Program
twice p = record (li 4 0 p) { runs = 2 }

unfoldable pub again : ℕ → Program → Program
again start p =
    let q = li 5 2 (put (addi 4 4 (pos 1)) p) in
    record (put (bne 4 5 (offset q.end start)) q) { runs = 1 }

abbrev pub looped : List (Program → Program) → Program → Program
looped steps p = again (twice p).end (in_turn steps (twice p))

-- six times 1 added to a register, the first ones jumped over
abbrev pub delay_slot : ℕ → ℕ → Program → Program
delay_slot r skipped = in_turn (times skipped (put_skipped (addi r r (pos 1))) ∷ times (6 - skipped) (put (addi r r (pos 1))) ∷ [])

-- no instruction yet: the program is about x3, which is to hold the case's number
unfoldable pub blank : ℕ → Mnemonic → Program
blank number m = record { words = replicate 64 0; mnemonic = m; counts = record { instructions = 0; clocks = 0 }; register = 3; value = number; end = 0; runs = 0 }

-- what every case begins with: a jump to itself, which is not run, and its number in x3
unfoldable pub opening : ℕ → Mnemonic → Program
opening number m = li 3 number (record (put (jal 0 (pos 0)) (blank number m)) { runs = 1 })
