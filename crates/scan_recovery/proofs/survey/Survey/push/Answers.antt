use Rattle.scan_recovery.proofs.Surveys.{seen_more}
use Rattle.scan_recovery.proofs.survey.Survey.push.Goals as goal

pub returns-clause-row : goal.returns-clause-row
returns-clause-row c = λ i line is table.
    seen_more i line c.args.start c.args.full c.args.self.now.lines.items c.push.new.self.items is table c.in_ok-push.ensures.items
