use Rattle.std.proofs.Common.{◌≡◌, map, drop}
use Rattle.std.specs.Prelude.{◌==◌}
use Rattle.std.specs.List.{find}
use Rattle.pblk_meta.specs.Records.{row_numbers}
use Rattle.scan_recovery.proofs.mount.head_row.Given as goal

abbrev pub invariant-loop-row : goal.invariant-loop-row
invariant-loop-row l = find (λ row. row.line == l.line) (map row_numbers (drop l.row-index l.rows)) ≡ find (λ row. row.line == l.line) (map row_numbers l.rows)
