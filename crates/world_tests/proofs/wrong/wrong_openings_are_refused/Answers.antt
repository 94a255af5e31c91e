use Rattle.world_tests.proofs.WrongEngine.{no_later_line, no_open_twice, no_seq_skipped, no_other_mount, no_other_front, no_blank_row, no_other_width}
use Rattle.world_tests.proofs.wrong.wrong_openings_are_refused.Goals as goal

pub returns : goal.returns
returns c = record {
  later_line = no_later_line;
  twice = no_open_twice;
  seq = no_seq_skipped;
  first_seq = no_other_mount;
  front = no_other_front;
  row = no_blank_row;
  width = no_other_width;
}
