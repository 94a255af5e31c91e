use Rattle.pblk_laws.proofs.BlankImages.{blank_fit}
use Rattle.pblk_laws.proofs.blank.blank_is_fit.Goals as goal

pub returns : goal.returns
returns c = blank_fit
