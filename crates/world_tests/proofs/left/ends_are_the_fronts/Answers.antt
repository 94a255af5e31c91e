use Rattle.std.proofs.Common.{refl}
use Rattle.pblk_model.specs.Bytes.{zeros}
use Rattle.pblk_model.specs.StartRecord.{written_run, rows_in}
use Rattle.pblk_model.specs.EndRecord.{pairs_in}
use Rattle.pblk_model.specs.Contents.{least_missing}
use Rattle.world_tests.specs.Steps.{sector}
use Rattle.world_tests.specs.Simple.{spelling}
use Rattle.world_tests.specs.Collected.{second_spelling}
use Rattle.world_tests.specs.Overwritten.{newer_sector, next_spelling, third_spelling}
use Rattle.world_tests.specs.Older.{younger_spelling}
use Rattle.world_tests.proofs.left.ends_are_the_fronts.Goals as goal

pub returns : goal.returns
unfolding zeros written_run rows_in pairs_in least_missing sector spelling second_spelling newer_sector next_spelling third_spelling younger_spelling
returns c = record { simple = refl; collected = refl; overwritten = refl; older = refl; halted = refl }
