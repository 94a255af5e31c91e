use Rattle.std.proofs.Common.{arith}
use Rattle.table_bench.proofs.buffer.Buffer.landed_one.Goals as goal

pub invariant_of-self : goal.invariant_of-self
invariant_of-self c = (
  c.landed.ensures.own c.self.inside.pool.region c.self.invariant.0,
  (
    c.self.invariant.1.0,
    (
      omega (arith, c.landed.ensures.as_many, c.self.invariant.1.1.0),
      (omega (arith, c.landed.ensures.size, c.self.invariant.1.1.1.0), c.self.invariant.1.1.1.1),
    ),
  ),
)
