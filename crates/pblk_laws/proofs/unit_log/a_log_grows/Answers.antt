use Rattle.pblk_laws.proofs.UnitLog.{log_grows, log_leaves}
use Rattle.pblk_laws.proofs.unit_log.a_log_grows.Goals as goal

pub returns-clause-is_log : goal.returns-clause-is_log
returns-clause-is_log c = log_grows

pub returns-clause-leaves : goal.returns-clause-leaves
returns-clause-leaves c = log_leaves
