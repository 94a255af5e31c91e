use Rattle.pblk_world.proofs.LandedPrograms.{landed_is_done}
use Rattle.pblk_world.proofs.laws.what_landed_was_done.Goals as goal

pub returns : goal.returns
returns c = landed_is_done
