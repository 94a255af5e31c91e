use Rattle.std.proofs.Common.{map}
use Rattle.std.specs.Option.{option_map}
use Rattle.pblk_meta.specs.Records.{row_numbers, start_numbers}
use Rattle.scan_recovery.specs.Traces.{head_row}
use Rattle.scan_recovery.proofs.mount.rows_by_line.Given as goal
use Rattle.pblk_model.specs.Tables.{IsTable}

abbrev pub invariant-loop-line : goal.invariant-loop-line
invariant-loop-line l = IsTable l.line (head_row (option_map start_numbers l.head)) (map (option_map row_numbers) l.rows.items)
