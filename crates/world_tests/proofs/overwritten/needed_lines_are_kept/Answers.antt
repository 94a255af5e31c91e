use Rattle.world_tests.proofs.WrongFrees.{no_only_record, no_high_position}
use Rattle.world_tests.proofs.overwritten.needed_lines_are_kept.Goals as goal

pub returns : goal.returns
returns c = record { only_record = no_only_record; high_position = no_high_position }
