use Rattle.rest_laws.proofs.RestingRoom.{few_wait}
use Rattle.rest_laws.proofs.RestingWork.{target_synced}
use Rattle.rest_laws.proofs.StillMounts.{still}
use Rattle.rest_laws.proofs.resting.at_rest_all_is_done.Goals as goal

pub returns : goal.returns
returns c = record {
  few = λ i w asked r. few_wait i w asked (still i w asked r);
  synced = λ i w asked position r. target_synced i w asked (still i w asked r) position;
}
