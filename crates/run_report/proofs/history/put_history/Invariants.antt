use Rattle.std.proofs.Common.{◌≡◌, ◌*◌, ◌≤◌, ◌++◌, drop, string_bytes}
use Rattle.std.specs.List.{enumerate_from, flat_map}
use Rattle.pblk_model.specs.Text.{history_line}
use Rattle.run_report.specs.Rows.{lines_of}
use Rattle.run_report.proofs.history.put_history.Given as goal

abbrev pub invariant-loop-row : goal.invariant-loop-row
invariant-loop-row l =
    (l.number ≤ 16 * l.row-index)
    × (string_bytes l.out ++ flat_map history_line (enumerate_from l.number (flat_map lines_of (drop l.row-index l.rows)))
    ≡ string_bytes l.initial.out ++ flat_map history_line (enumerate_from 0 (flat_map lines_of l.rows)))
