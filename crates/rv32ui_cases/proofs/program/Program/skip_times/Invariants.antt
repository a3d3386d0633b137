use Rattle.std.proofs.Common.{◌≡◌}
use Rattle.rv32ui_cases.specs.Programs.{put_skipped, times}
use Rattle.rv32ui_cases.proofs.program.Program.skip_times.Given as goal

abbrev pub invariant-loop-done : goal.invariant-loop-done
invariant-loop-done l = l.self ≡ times l._done (put_skipped l.instruction) l.fn.self
