-- What a class that has funct3 and no funct7 answers: LD, ST and BR.
use Rattle.std.specs.Prelude.{◌≡◌, ℕ, Ok, Result, MatchResult}
use Rattle.isa.specs.declared.mnemonic.Format.{Format}
use Rattle.isa.specs.declared.mnemonic.Mnemonic.{Mnemonic}
use Rattle.isa.specs.declared.refusal.Refusal.{Refusal}
use Rattle.isa.specs.Refusals.{number_of}
use Rattle.isa.specs.Table.{Selects, row_of}

-- the answer a is the one mnemonic with opcode o and funct3 f, whatever the funct7
abbrev pub OnlyMnemonic : ℕ → ℕ → Result Mnemonic Refusal → Type 0
OnlyMnemonic o f a = (m : Mnemonic) (g : ℕ) → Selects m o f g → a ≡ Ok m

-- and it has these codes and the format t, or else is the refusal 3
abbrev pub Names : ℕ → ℕ → Format → Result Mnemonic Refusal → Type 0
Names o f t a = MatchResult a (λ m. ((g : ℕ) → Selects m o f g) × ((row_of m).format ≡ t)) (λ e. number_of e ≡ 3)
