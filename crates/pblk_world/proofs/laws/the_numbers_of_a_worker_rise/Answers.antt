use Rattle.pblk_world.proofs.RisingMakers.{rising}
use Rattle.pblk_world.proofs.laws.the_numbers_of_a_worker_rise.Goals as goal

pub returns : goal.returns
returns c = rising
