use Rattle.pblk_laws.proofs.ImageBytesOne.{one_drive}
use Rattle.pblk_laws.proofs.image_file.image_is_of_one_drive.Goals as goal

pub returns : goal.returns
returns c = λ bytes d e p q here there. one_drive bytes d e p q here there
