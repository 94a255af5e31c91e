use Rattle.pblk_world.proofs.Growing.{grows}
use Rattle.pblk_world.proofs.laws.logs_only_grow.Goals as goal

pub returns : goal.returns
returns c = grows
