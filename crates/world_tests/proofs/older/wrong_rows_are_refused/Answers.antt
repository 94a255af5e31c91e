use Rattle.world_tests.proofs.OlderWorld.{no_missing_row, no_low_bound}
use Rattle.world_tests.proofs.older.wrong_rows_are_refused.Goals as goal

pub returns : goal.returns
returns c = record { missing = no_missing_row; bound = no_low_bound }
