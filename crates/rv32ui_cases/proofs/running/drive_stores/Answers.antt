use Rattle.rv32ui_cases.proofs.Loading.{stack_holds}
use Rattle.rv32ui_cases.proofs.running.drive_stores.Goals as goal

pub returns : goal.returns
returns c = stack_holds c.args.program.now c.args.calls c.new-left.result.cells.now c.new-right.result.cells.now _ c.drive_stack.ensures.fits.0 c.drive_stack.ensures.fits.1 c.new-left.ensures.value c.new-right.ensures.value c.drive_stack.ensures.shown
