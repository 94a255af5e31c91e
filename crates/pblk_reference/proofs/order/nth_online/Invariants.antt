use Rattle.std.proofs.Common.{◌≡◌, drop}
use Rattle.std.specs.List.{slice_get}
use Rattle.pblk_reference.specs.Line.{online_chunks}
use Rattle.pblk_reference.proofs.order.nth_online.Given as goal

abbrev pub invariant-loop-unit : goal.invariant-loop-unit
invariant-loop-unit l = slice_get (online_chunks l.line (drop l.unit-index l.units)) l.left ≡ slice_get (online_chunks l.line l.units) l.n
