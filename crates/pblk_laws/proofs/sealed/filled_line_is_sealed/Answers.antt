use Rattle.pblk_laws.proofs.SealedImages.{filled_sealed}
use Rattle.pblk_laws.proofs.sealed.filled_line_is_sealed.Goals as goal

pub returns : goal.returns
returns c = filled_sealed
