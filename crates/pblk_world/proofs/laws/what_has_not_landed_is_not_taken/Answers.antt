use Rattle.pblk_world.proofs.Takers.{nothing_taken}
use Rattle.pblk_world.proofs.laws.what_has_not_landed_is_not_taken.Goals as goal

pub returns : goal.returns
returns c = nothing_taken
