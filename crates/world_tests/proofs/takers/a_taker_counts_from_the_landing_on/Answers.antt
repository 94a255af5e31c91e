use Rattle.std.proofs.Common.{refl}
use Rattle.pblk_model.specs.StartRecord.{written_run}
use Rattle.pblk_model.specs.Contents.{least_missing}
use Rattle.world_tests.proofs.takers.a_taker_counts_from_the_landing_on.Goals as goal

pub returns : goal.returns
unfolding written_run least_missing
returns c = record { placed = refl; live = refl; in_flight = refl; landed = refl; lost = refl }
