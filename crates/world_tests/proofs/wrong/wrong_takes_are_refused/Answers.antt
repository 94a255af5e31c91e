use Rattle.world_tests.proofs.WrongEngine.{no_skipped_position, no_lba_past, no_others_mark, no_stale_winner, no_void_latest, no_other_sector}
use Rattle.world_tests.proofs.wrong.wrong_takes_are_refused.Goals as goal

pub returns : goal.returns
returns c = record {
  position = no_skipped_position;
  lba = no_lba_past;
  mark = no_others_mark;
  stale = no_stale_winner;
  void = no_void_latest;
  sector = no_other_sector;
}
