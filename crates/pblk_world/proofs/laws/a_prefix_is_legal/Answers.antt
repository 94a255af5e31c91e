use Rattle.pblk_world.proofs.Growing.{prefix_legal}
use Rattle.pblk_world.proofs.laws.a_prefix_is_legal.Goals as goal

pub returns : goal.returns
returns c = prefix_legal
