use Rattle.std.proofs.Common.{◌≡◌, take}
use Rattle.std.specs.Prelude.{map}
use Rattle.pblk_meta.specs.Records.{row_numbers}
use Rattle.pblk_core.specs.OlderLines.{older_found}
use Rattle.pblk_core.proofs.opening.older_rows.Given as goal

abbrev pub invariant-loop-line : goal.invariant-loop-line
invariant-loop-line l = map row_numbers l.rows ≡ older_found l.end (take l.line l.lines)
