use Rattle.std.proofs.Common.{sym, ◌∙◌}
use Rattle.run_script.proofs.RunOn.{told_unposted}
use Rattle.run_script.proofs.reader.Reader.finish.Goals as goal

pub returns-in-Some-clause-answer : goal.returns-in-Some-clause-answer
returns-in-Some-clause-answer c = λ heard read. told_unposted heard c.in-Some.line (sym (c.unposted.ensures heard read) ∙ c.in-Some.is)
