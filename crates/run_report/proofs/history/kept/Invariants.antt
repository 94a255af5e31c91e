use Rattle.std.proofs.Common.{◌≡◌, ◌+◌, ◌*◌, ◌≤◌, drop}
use Rattle.std.specs.List.{flat_map}
use Rattle.pblk_model.specs.History.{users}
use Rattle.run_report.specs.Rows.{positions_of}
use Rattle.run_report.proofs.history.kept.Given as goal

abbrev pub invariant-loop-row : goal.invariant-loop-row
invariant-loop-row l =
    (l.kept ≤ 16 * l.row-index)
    × (l.kept + users (flat_map positions_of (drop l.row-index l.rows)) l.end ≡ users (flat_map positions_of l.rows) l.end)
