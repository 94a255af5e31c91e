use Rattle.std.proofs.Common.{ap, arith}
use Rattle.write_window.specs.Window.{WindowView}
use Rattle.table_tests.proofs.window.harness.readable.Goals as goal

pub invariant_of-result-2 : goal.invariant_of-result-2
invariant_of-result-2 c = (
  c.readable.ensures.own c.bench.inside.pool.region c.bench.invariant.0,
  (
    omega (arith, c.readable.ensures.as_many, c.bench.invariant.1.0),
    (omega (arith, ap (λ (w : WindowView). w.size) c.readable.ensures.readable, c.bench.invariant.1.1.0), c.bench.invariant.1.1.1),
  ),
)
