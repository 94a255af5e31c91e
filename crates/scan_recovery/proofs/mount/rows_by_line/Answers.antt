use Rattle.std.proofs.Common.{map}
use Rattle.std.specs.Option.{option_map}
use Rattle.pblk_meta.specs.Records.{row_numbers, start_numbers}
use Rattle.scan_recovery.specs.Traces.{head_row}
use Rattle.scan_recovery.proofs.mount.rows_by_line.Goals as goal
use Rattle.pblk_model.proofs.Maps.{map_last}
use Rattle.pblk_model.proofs.TableLemmas.{table_push}

pub loop-line-preserved : goal.loop-line-preserved
loop-line-preserved c =
    rw (c.in_ok-push.ensures.items, map_last (option_map row_numbers) c.loop-line.rows.items c.row_in.result)
    (table_push c.loop-line.line (head_row (option_map start_numbers c.args.head.now)) (map (option_map row_numbers) c.loop-line.rows.items)
    (option_map row_numbers c.row_in.result) c.loop-line.invariant c.row_in.ensures)
