use Rattle.std.proofs.Common.{◌∙◌}
use Rattle.image_check.proofs.LineLemmas.{wide, short}
use Rattle.image_check.proofs.line.Line.width.Goals as goal

pub returns-clause-width : goal.returns-clause-width
returns-clause-width c = c.width.ensures.width ∙ wide c.self.inside c.args.self.now c.self.invariant c.self.view_is

pub returns-clause-short : goal.returns-clause-short
returns-clause-short c = short c.self.inside c.args.self.now c.self.invariant c.self.view_is
