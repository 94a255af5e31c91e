use Rattle.world_tests.proofs.FilledWorld.{no_early_end, no_data_at_end}
use Rattle.world_tests.proofs.filled.wrong_ends_are_refused.Goals as goal

pub returns : goal.returns
returns c = record { early = no_early_end; data_ = no_data_at_end }
