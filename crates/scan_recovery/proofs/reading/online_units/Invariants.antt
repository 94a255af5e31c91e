use Rattle.std.proofs.Common.{map}
use Rattle.pblk_layout.proofs.UnitSets.{HasBelow}
use Rattle.scan_recovery.specs.Units.{image_of}
use Rattle.scan_recovery.proofs.reading.online_units.Given as goal
use Rattle.pblk_laws.proofs.LineUnits.{is_online_at}

abbrev pub invariant-loop-unit : goal.invariant-loop-unit
invariant-loop-unit g l = HasBelow (is_online_at (image_of l.shape (map g.U.Unit.model l.units)) l.line) l.unit l.online
