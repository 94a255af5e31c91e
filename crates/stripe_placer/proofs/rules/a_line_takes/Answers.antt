use Rattle.stripe_placer.proofs.Named.{data_after_start, data_with_entries, data_positions, other_positions, end_after_data, failed_pads}
use Rattle.stripe_placer.proofs.rules.a_line_takes.Goals as goal

pub returns : goal.returns
returns c = record {
  start = data_after_start;
  entries = data_with_entries;
  positions = data_positions;
  no_positions = other_positions;
  all_data = end_after_data;
  pads = failed_pads;
}
