use Rattle.std.proofs.Common.{map}
use Rattle.std.specs.Option.{option_map}
use Rattle.pblk_meta.specs.Records.{row_numbers, start_numbers}
use Rattle.scan_recovery.specs.Find.{row_from}
use Rattle.scan_recovery.proofs.finding.line_rows.Given as goal
use Rattle.pblk_model.specs.Tables.{IsTable}

abbrev pub invariant-loop-line : goal.invariant-loop-line
invariant-loop-line l = IsTable l.line (λ k. row_from l.lines (option_map start_numbers l.head) (map (option_map row_numbers) l.rows) l.tops k) l.found.items
