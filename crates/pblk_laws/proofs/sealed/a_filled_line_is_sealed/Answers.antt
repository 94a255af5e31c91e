use Rattle.pblk_laws.proofs.SealedImages.{sealed_there}
use Rattle.pblk_laws.proofs.sealed.a_filled_line_is_sealed.Goals as goal

pub returns : goal.returns
returns c = sealed_there
