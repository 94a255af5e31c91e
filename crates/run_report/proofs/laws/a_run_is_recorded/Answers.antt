use Rattle.run_report.proofs.Recorded.{recorded}
use Rattle.run_report.proofs.laws.a_run_is_recorded.Goals as goal

pub returns : goal.returns
returns c = recorded
