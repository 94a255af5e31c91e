use Rattle.std.proofs.Common.{arith}
use Rattle.run_report.proofs.Loops.{users_range}
use Rattle.run_report.proofs.history.kept_of.Goals as goal

pub returns-clause-kept : goal.returns-clause-kept
returns-clause-kept c = omega (arith, users_range c.args.row.now.first c.args.row.now.count c.args.end)
