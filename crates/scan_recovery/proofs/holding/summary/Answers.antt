use Rattle.std.proofs.Common.{subst}
use Rattle.pblk_model.specs.Image.{Image}
use Rattle.scan_recovery.specs.Holding.{IsSummaryOf}
use Rattle.scan_recovery.proofs.holding.summary.Goals as goal

pub returns : goal.returns
returns c = subst (λ (j : Image). IsSummaryOf j c.in_ok-held.held.summary) c.in_ok-media.ensures.image c.in_ok-held.ensures.summary
