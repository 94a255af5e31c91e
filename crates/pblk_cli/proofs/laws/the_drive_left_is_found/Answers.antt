use Rattle.pblk_model.specs.ImageFile.{image_bytes}
use Rattle.pblk_cli.proofs.laws.the_drive_left_is_found.Goals as goal

pub returns : goal.returns
returns c = λ image script options status text old new made. record { bytes = image_bytes made.left; read = made.stored.0; is = made.run.spelled }
