use Rattle.pblk_layout.proofs.UnitSets.{HasBelow, is_found}
use Rattle.pblk_layout.proofs.line_units.found_units.Given as goal

abbrev pub invariant-loop-unit : goal.invariant-loop-unit
invariant-loop-unit l = HasBelow (is_found l.shape l.found l.line) l.unit l.online
