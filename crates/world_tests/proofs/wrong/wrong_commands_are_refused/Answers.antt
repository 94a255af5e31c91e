use Rattle.world_tests.proofs.WrongUnits.{no_reset_before, no_unplaced, no_unknown, no_reset_of_open, no_write_after_stop, no_whole_failure}
use Rattle.world_tests.proofs.wrong.wrong_commands_are_refused.Goals as goal

pub returns : goal.returns
returns c = record {
  early_reset = no_reset_before;
  unplaced = no_unplaced;
  unknown = no_unknown;
  reset = no_reset_of_open;
  stopped = no_write_after_stop;
  failure = no_whole_failure;
}
