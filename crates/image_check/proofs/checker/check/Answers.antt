use Rattle.std.proofs.Common.{ap, ◌∙◌}
use Rattle.image_check.specs.Right.{said_contents}
use Rattle.image_check.proofs.DriveImage.{image}
use Rattle.image_check.proofs.CheckLemmas.{not_refused}
use Rattle.image_check.proofs.Outcomes.{err_only}
use Rattle.image_check.proofs.Payloads.{contents_told}
use Rattle.image_check.proofs.checker.check.Goals as goal

pub returns-in_err-check_all-clause-complete : goal.returns-in_err-check_all-clause-complete
returns-in_err-check_all-clause-complete c = λ right. err_only c.from_residual.result c.from_residual.ensures.1
    (λ e same. same ∙ not_refused (image c.args.drive.now) c.args.certificate.now c.in_err-check_all.field-0.0 right c.in_err-check_all.ensures.refused)

pub returns-clause-contents : goal.returns-clause-contents
returns-clause-contents c = ap (said_contents (image c.args.drive.now)) c.in_ok-check_all.ensures.right.wins ∙ contents_told (image c.args.drive.now)
