use Rattle.image_check.specs.Surveys.{IsSurvey}
use Rattle.image_check.proofs.DriveImage.{image}
use Rattle.image_check.proofs.survey.survey_of.Given as goal

abbrev pub invariant-loop-number : goal.invariant-loop-number
invariant-loop-number l = IsSurvey (image l.drive) l.number l.survey
