use Rattle.pblk_laws.proofs.UnitLog.{answered, failed, stopped}
use Rattle.pblk_laws.proofs.unit_log.events_follow_the_table.Goals as goal

pub returns-clause-answered : goal.returns-clause-answered
returns-clause-answered c = answered

pub returns-clause-failed : goal.returns-clause-failed
returns-clause-failed c = failed

pub returns-clause-stopped : goal.returns-clause-stopped
returns-clause-stopped c = stopped
