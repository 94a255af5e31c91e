use Rattle.pblk_world.proofs.SyncedFront.{synced_is, synced_within, synced_missing}
use Rattle.pblk_world.proofs.laws.a_front_is_synced.Goals as goal

pub returns : goal.returns
returns c = record { landed = synced_is; within = synced_within; missing = synced_missing }
