use Rattle.pblk_engine.proofs.OpenedPasts.{opened_first, opened_fit, opened_units, opening_logs}
use Rattle.pblk_engine.proofs.laws.an_opening_is_a_past.Goals as goal

pub returns-clause-begun : goal.returns-clause-begun
returns-clause-begun c s old new f accepted fit armed is = opened_first s old new f accepted fit is armed

pub returns-clause-fit : goal.returns-clause-fit
returns-clause-fit c s old new f accepted fit is = opened_fit s old new f accepted fit is

pub returns-clause-units : goal.returns-clause-units
returns-clause-units c s old new f accepted fit armed is number u there = opened_units s old new f accepted fit is armed number u there

pub returns-clause-opening : goal.returns-clause-opening
returns-clause-opening c s old new f accepted fit armed is = opening_logs s old new f accepted fit is armed
