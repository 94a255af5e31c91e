use Rattle.world_laws.proofs.NewLines.{entry_clause, landed_clause, last_placed, last_start, stands_clause}
use Rattle.world_laws.proofs.chunks.a_line_has_what_was_placed_in_it.Goals as goal

pub returns : goal.returns
returns c = record { start = last_start; stands = stands_clause; entry = entry_clause; placed = last_placed; landed = landed_clause }
