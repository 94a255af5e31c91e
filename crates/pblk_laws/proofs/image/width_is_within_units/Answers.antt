use Rattle.pblk_laws.proofs.Widths.{width_within}
use Rattle.pblk_laws.proofs.image.width_is_within_units.Goals as goal

pub returns : goal.returns
returns c = width_within
