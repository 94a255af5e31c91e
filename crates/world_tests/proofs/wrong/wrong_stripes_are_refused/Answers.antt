use Rattle.world_tests.proofs.WrongStripes.{no_data_before_start, no_busy_unit, no_broken_order, no_dropped_entry, no_closed_line, no_data_in_failed, no_other_chunk}
use Rattle.world_tests.proofs.wrong.wrong_stripes_are_refused.Goals as goal

pub returns : goal.returns
returns c = record {
  early = no_data_before_start;
  busy = no_busy_unit;
  order = no_broken_order;
  entry = no_dropped_entry;
  closed = no_closed_line;
  failed = no_data_in_failed;
  chunk = no_other_chunk;
}
