use Rattle.pblk_world.specs.World.{log_of}
use Rattle.world_laws.proofs.EarlierLogs.{some_begun}
use Rattle.rest_laws.proofs.NotedResets.{all_noted}
use Rattle.rest_laws.proofs.UsedResets.{may_note, still_given, unempty_now}
use Rattle.rest_laws.proofs.room.a_reset_not_noted_is_of_a_line_to_be_reset.Goals as goal

pub returns : goal.returns
returns c = record {
  given = λ i w unit number mount some may. let b = some_begun i w mount.legal some in
      still_given i w mount b.0 b.1 unit number (may_note (log_of w) unit number may);
  used = λ i w unit number mount some may. let b = some_begun i w mount.legal some in
      unempty_now i w mount b.0 b.1 unit number (may_note (log_of w) unit number may);
  noted = λ i w unit number mount some all. let b = some_begun i w mount.legal some in all_noted i w mount b.0 b.1 unit number all;
}
