use Rattle.pblk_layout.proofs.UnitSets.{HasBelow}
use Rattle.image_check.proofs.DriveImage.{image}
use Rattle.image_check.proofs.line.online_units.Given as goal
use Rattle.pblk_laws.proofs.LineUnits.{is_online_at}

abbrev pub invariant-loop-unit : goal.invariant-loop-unit
invariant-loop-unit l = HasBelow (is_online_at (image l.drive) l.line) l.unit l.online
