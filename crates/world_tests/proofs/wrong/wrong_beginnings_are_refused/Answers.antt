use Rattle.world_tests.proofs.WrongEngine.{no_taken_first, no_skipped_seq, no_blank_stray, no_second_begin, no_event_before, no_open_chunk}
use Rattle.world_tests.proofs.wrong.wrong_beginnings_are_refused.Goals as goal

pub returns : goal.returns
returns c = record {
  first = no_taken_first;
  seq = no_skipped_seq;
  stray = no_blank_stray;
  twice = no_second_begin;
  never = no_event_before;
  open_chunk = no_open_chunk;
}
