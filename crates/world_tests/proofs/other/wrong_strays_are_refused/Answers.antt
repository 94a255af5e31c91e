use Rattle.world_tests.proofs.OtherWorlds.{no_part, no_sector_pad, no_missing_stray, no_reset_of_blank, no_second_reset, no_open_of_used}
use Rattle.world_tests.proofs.other.wrong_strays_are_refused.Goals as goal

pub returns : goal.returns
returns c = record {
  part = no_part;
  sector = no_sector_pad;
  left_out = no_missing_stray;
  blank = no_reset_of_blank;
  twice = no_second_reset;
  unreset = no_open_of_used;
}
