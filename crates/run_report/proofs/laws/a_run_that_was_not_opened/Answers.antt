use Rattle.run_report.proofs.Ports.{unopened}
use Rattle.run_report.proofs.laws.a_run_that_was_not_opened.Goals as goal

pub returns : goal.returns
returns c = unopened
