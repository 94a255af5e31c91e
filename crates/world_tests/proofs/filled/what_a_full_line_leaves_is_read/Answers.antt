use Rattle.std.proofs.Common.{refl}
use Rattle.pblk_model.specs.Contents.{least_missing}
use Rattle.world_tests.proofs.FilledWorld.{starts, ends_with, ends_at, holds_sector}
use Rattle.world_tests.proofs.filled.what_a_full_line_leaves_is_read.Goals as goal

pub returns : goal.returns
unfolding least_missing
returns c = record { start = starts; record_ = ends_with; ends = ends_at; synced = refl; sector = holds_sector }
