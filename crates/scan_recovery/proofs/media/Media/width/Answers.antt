use Rattle.std.proofs.Common.{◌∙◌, arith}
use Rattle.scan_recovery.proofs.MediaLines.{wide, within}
use Rattle.scan_recovery.proofs.media.Media.width.Goals as goal

pub returns-clause-width : goal.returns-clause-width
returns-clause-width c = c.width.ensures.width
    ∙ wide c.self.inside c.args.self.now c.args.line c.index.result.now c.self.invariant c.self.view_is c.requires c.index.ensures

pub returns-clause-few : goal.returns-clause-few
returns-clause-few c = omega (
  arith,
  c.width.ensures.width,
  within c.self.inside c.args.self.now c.args.line c.index.result.now c.self.invariant c.self.view_is c.requires c.index.ensures,
)
