use Rattle.std.proofs.Common.{arith}
use Rattle.table_tests.proofs.window.harness.landed.Goals as goal

pub invariant_of-result-2 : goal.invariant_of-result-2
invariant_of-result-2 c = (
  c.landed.ensures.own c.bench.inside.pool.region c.bench.invariant.0,
  (
    omega (arith, c.landed.ensures.as_many, c.bench.invariant.1.0),
    (omega (arith, c.landed.ensures.size, c.bench.invariant.1.1.0), c.bench.invariant.1.1.1),
  ),
)
