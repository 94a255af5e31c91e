use Rattle.std.proofs.Common.{◌≡◌, length}
use Rattle.std.specs.List.{filter, range_with_len}
use Rattle.pblk_model.specs.Image.{Image}
use Rattle.pblk_world.specs.Lines.{is_stray}
use Rattle.scan_recovery.specs.Survey.{seen_line}
use Rattle.scan_recovery.proofs.finding.strays_in.Given as goal
use Rattle.pblk_model.specs.Tables.{IsTable}

abbrev pub invariant-loop-line : goal.invariant-loop-line
invariant-loop-line l = (i : Image) → IsTable (length l.lines) (seen_line i) l.lines → l.strays.items ≡ filter (is_stray i) (range_with_len 0 l.line)
