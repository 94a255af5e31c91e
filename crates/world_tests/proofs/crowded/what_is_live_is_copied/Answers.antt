use Rattle.std.proofs.Common.{refl, lit<}
use Rattle.pblk_model.specs.StartRecord.{written_run}
use Rattle.pblk_model.specs.Contents.{least_missing}
use Rattle.pblk_world.specs.Victims.{victim}
use Rattle.world_tests.proofs.crowded.what_is_live_is_copied.Goals as goal

pub returns : goal.returns
unfolding written_run least_missing victim
returns c = record {
  taken = refl;
  taker = refl;
  pads = refl;
  live = refl;
  untaken = refl;
  copy = record { due = refl; line = 0; at_work = refl; has_live = lit< tt; has_position = lit< tt; has_address = lit< tt };
}
