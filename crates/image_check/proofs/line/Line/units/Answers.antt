use Rattle.image_check.proofs.LineLemmas.{fit_of}
use Rattle.image_check.proofs.line.Line.units.Goals as goal

pub returns-clause-fit : goal.returns-clause-fit
returns-clause-fit c = fit_of c.self.inside c.args.self.now c.self.invariant c.self.view_is
