use Rattle.std.proofs.Common.{refl}
use Rattle.pblk_model.specs.StartRecord.{written_run}
use Rattle.pblk_model.specs.Contents.{least_missing}
use Rattle.pblk_world.specs.Victims.{victim}
use Rattle.world_tests.proofs.fronts.its_fronts_are_known.Goals as goal

pub returns : goal.returns
unfolding written_run least_missing victim
returns c = record {
  taken = refl;
  synced = refl;
  freed = refl;
  history = refl;
  positions = refl;
  free = refl;
  addresses = refl;
  room = refl;
  live = refl;
  victim = refl;
}
