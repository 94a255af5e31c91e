use Rattle.world_laws.proofs.ToldTables.{open_told, rows_told as older_told}
use Rattle.core_laws.proofs.ToldTables.{left_told, line_told, online_told, placing_told, rows_told, slot_told}
use Rattle.core_laws.proofs.growth.a_targets_tables_are_by_what_was_told.Goals as goal

pub returns : goal.returns
returns c = record {
  slot = slot_told;
  rows = rows_told;
  online = online_told;
  line = line_told;
  left = left_told;
  addresses = open_told;
  older = older_told;
  placer = placing_told;
}
