use Rattle.pblk_laws.proofs.SealedImages.{blank_sealed}
use Rattle.pblk_laws.proofs.sealed.blank_is_sealed.Goals as goal

pub returns : goal.returns
returns c = blank_sealed
