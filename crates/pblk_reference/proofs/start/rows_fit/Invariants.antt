use Rattle.std.proofs.Common.{◌≡◌, drop}
use Rattle.pblk_model.specs.StartRecord.{rows_fit}
use Rattle.pblk_reference.proofs.start.rows_fit.Given as goal

abbrev pub invariant-loop-row : goal.invariant-loop-row
invariant-loop-row l = rows_fit l.shape l.start l.least (drop l.row-index l.rows) ≡ rows_fit l.shape l.start 0 l.rows
