use Rattle.pblk_laws.proofs.ImageBytesDrive.{drive_in, fit_drive}
use Rattle.pblk_laws.proofs.image_file.an_image_is_of_a_fit_drive.Goals as goal

pub returns : goal.returns
returns c = λ b bytes is. let fit = fit_drive b bytes is in (drive_in b, fit.0, fit.1, fit.2)
