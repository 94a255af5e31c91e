use Rattle.std.proofs.Common.{refl}
use Rattle.pblk_model.specs.StartRecord.{written_run}
use Rattle.pblk_model.specs.Contents.{least_missing}
use Rattle.pblk_world.specs.Victims.{victim}
use Rattle.world_tests.proofs.crowded.a_line_comes_to_work.Goals as goal

pub returns : goal.returns
unfolding written_run least_missing victim
returns c = record { due = refl; early = refl; at_work = refl; freed = refl }
