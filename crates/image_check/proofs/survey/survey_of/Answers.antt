use Rattle.std.proofs.Common.{◌≡◌, refl, ap, ◌∙◌, arith}
use Rattle.pblk_model.specs.declared.shape.Shape.{Shape}
use Rattle.image_check.proofs.DriveImage.{image}
use Rattle.image_check.proofs.SurveyLemmas.{all_entries, all_heads, survey_moved, survey_new}
use Rattle.image_check.proofs.survey.survey_of.Goals as goal

pub loop-number-init : goal.loop-number-init
loop-number-init c = survey_new (image c.args.drive.now) _ c.new.ensures.items refl

pub loop-number-preserved : goal.loop-number-preserved
loop-number-preserved c = survey_moved c.new-in-loop-number.result.image (image c.args.drive.now) c.new-in-loop-number.result.number c.loop-number.number
    c.loop-number.survey c.add.new.self c.new-in-loop-number.ensures.image c.new-in-loop-number.ensures.number c.in_ok-add.ensures c.loop-number.invariant

pub returns-clause-lines : goal.returns-clause-lines
returns-clause-lines c =
    let end : c.loop-number.number ≡ c.shape-number-end.result.chunks = omega (arith, c.loop-number.auto.number-end, c.loop-number-test.false) in
    all_entries (image c.args.drive.now) c.loop-number.number c.loop-number.survey
    (end ∙ ap (λ (s : Shape). s.chunks) c.shape-number-end.ensures.shape) c.loop-number.invariant

pub returns-clause-head : goal.returns-clause-head
returns-clause-head c =
    let end : c.loop-number.number ≡ c.shape-number-end.result.chunks = omega (arith, c.loop-number.auto.number-end, c.loop-number-test.false) in
    all_heads (image c.args.drive.now) c.loop-number.number c.loop-number.survey
    (end ∙ ap (λ (s : Shape). s.chunks) c.shape-number-end.ensures.shape) c.loop-number.invariant
