use Rattle.std.proofs.Common.{length, take}
use Rattle.pblk_meta.specs.Records.{start_numbers}
use Rattle.scan_recovery.specs.Traces.{bares, borne_at}
use Rattle.scan_recovery.proofs.ending.borne_from.Given as goal
use Rattle.pblk_model.specs.Tables.{IsTable}

abbrev pub invariant-loop-t : goal.invariant-loop-t
invariant-loop-t l = IsTable (length l.traces) (borne_at (bares (take l.t-index l.traces)) (start_numbers l.head)) l.borne.items
