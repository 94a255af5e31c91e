use Rattle.pblk_world.proofs.SyncedFront.{one_synced}
use Rattle.pblk_world.proofs.laws.one_front_is_synced.Goals as goal

pub returns : goal.returns
returns c = one_synced
