use Rattle.rv32ui_cases.proofs.Loading.{image_holds}
use Rattle.rv32ui_cases.proofs.running.drive_image.Goals as goal

pub returns : goal.returns
returns c = image_holds c.args.program.now c.args.calls c.new-image.result.cells.now _ _ _ c.load.ensures.fits.0 c.load.ensures.fits.1 c.new-image.ensures.value c.load.ensures.kinds c.load.ensures.words c.drive.ensures
