-- Instructions that are put several times.
use Rattle.std.proofs.Common.{◌≡◌, ℕ, suc, ◌+◌, refl, ap, arith}
use Rattle.isa.specs.declared.instruction.Instruction.{Instruction}
use Rattle.rv32ui_cases.specs.Programs.{put, put_skipped, times}
use Rattle.rv32ui_cases.specs.declared.program.Program.{Program}

more : (step : Program → Program) (k j : ℕ) (p : Program) → j ≡ k + 1 → step (times k step p) ≡ times j step p
unfolding times
more step k j p e = ap (λ (n : ℕ). times n step p) {x = suc k} (omega arith)

pub none_put : (i : Instruction) (p : Program) → times 0 (put i) p ≡ p
unfolding times
none_put i p = refl

pub one_more_put : (i : Instruction) (k j : ℕ) (p : Program) → j ≡ k + 1 → put i (times k (put i) p) ≡ times j (put i) p
one_more_put i = more (put i)

pub none_skipped : (i : Instruction) (p : Program) → times 0 (put_skipped i) p ≡ p
unfolding times
none_skipped i p = refl

pub one_more_skipped : (i : Instruction) (k j : ℕ) (p : Program) → j ≡ k + 1 → put_skipped i (times k (put_skipped i) p) ≡ times j (put_skipped i) p
one_more_skipped i = more (put_skipped i)
