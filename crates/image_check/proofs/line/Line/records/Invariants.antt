use Rattle.std.proofs.Common.{◌≡◌}
use Rattle.std.specs.Option.{option_map}
use Rattle.pblk_model.specs.EndRecord.{end_of}
use Rattle.pblk_meta.specs.Records.{end_numbers, start_numbers}
use Rattle.image_check.proofs.RunLemmas.{records_to}
use Rattle.image_check.proofs.line.Line.records.Given as goal

abbrev pub invariant-loop-at : goal.invariant-loop-at
invariant-loop-at l = record {
  borne : l.records.items ≡ records_to l.self.image l.self.number (start_numbers l.start) l.at;
  ended : option_map end_numbers l.end ≡ end_of l.self.image l.self.number (start_numbers l.start);
}
