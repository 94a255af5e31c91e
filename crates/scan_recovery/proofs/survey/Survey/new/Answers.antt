use Rattle.scan_recovery.proofs.Surveys.{survey_new}
use Rattle.scan_recovery.proofs.survey.Survey.new.Goals as goal

pub returns : goal.returns
returns c = λ i cap chunks. survey_new i c.args.sectors c.args.lines _ cap chunks c.new.ensures.items c.in_ok-new.ensures
