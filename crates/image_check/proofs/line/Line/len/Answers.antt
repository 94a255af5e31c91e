use Rattle.std.proofs.Common.{sym, arith}
use Rattle.image_check.proofs.LineLemmas.{count_is, nothing}
use Rattle.image_check.proofs.line.Line.len.Goals as goal

pub returns-clause-past : goal.returns-clause-past
returns-clause-past c = λ a far. sym (nothing c.self.inside c.args.self.now c.self.invariant c.self.view_is a
    (omega (
      arith,
      far,
      count_is c.self.inside c.args.self.now c.width.result c.shape.result.now c.self.invariant c.self.view_is c.width.ensures.width
          c.shape.ensures.shape,
    )))
