use Rattle.std.proofs.Common.{arith}
use Rattle.scan_recovery.proofs.MediaLines.{count_is, count_short}
use Rattle.scan_recovery.proofs.media.Media.len.Goals as goal

pub overflow_mul-result : goal.overflow_mul-result
overflow_mul-result c = omega (
  arith,
  count_short c.self.inside c.args.self.now c.shape.result.now c.args.line c.width.result c.self.invariant c.self.view_is c.shape.ensures.shape
      c.width.ensures.width,
)

pub returns-clause-few : goal.returns-clause-few
returns-clause-few c = omega (
  arith,
  count_short c.self.inside c.args.self.now c.shape.result.now c.args.line c.width.result c.self.invariant c.self.view_is c.shape.ensures.shape
      c.width.ensures.width,
)

pub returns-clause-len : goal.returns-clause-len
returns-clause-len c =
    count_is c.self.inside c.args.self.now c.shape.result.now c.args.line c.width.result c.self.view_is c.shape.ensures.shape c.width.ensures.width
