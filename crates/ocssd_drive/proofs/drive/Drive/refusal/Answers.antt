use Rattle.std.proofs.Common.{◌∙◌, ◌↔◌, IsNone, ap, subst}
use Rattle.pblk_model.specs.declared.shape.Shape.{Shape}
use Rattle.pblk_model.specs.Accepted.{IsAccepted, shape_refusal}
use Rattle.ocssd_drive.proofs.Lists.{if_none}
use Rattle.ocssd_drive.proofs.drive.Drive.refusal.Goals as goal

pub returns-clause-refusal : goal.returns-clause-refusal
returns-clause-refusal c = c.refusal.ensures.refusal ∙ ap shape_refusal c.shape-shape.ensures

pub returns-clause-accepted : goal.returns-clause-accepted
returns-clause-accepted c = subst (λ (s : Shape). IsNone c.refusal.result ↔ IsAccepted s) c.shape-shape.ensures c.refusal.ensures.accepted

pub returns-clause-none : goal.returns-clause-none
returns-clause-none c = if_none _ c.refusal.result (returns-clause-accepted c).0
