use Rattle.pblk_laws.proofs.Shapes.{small, small_accepted}
use Rattle.pblk_laws.proofs.accepted.a_shape_is_accepted.Goals as goal

pub returns : goal.returns
returns c = (small, small_accepted)
