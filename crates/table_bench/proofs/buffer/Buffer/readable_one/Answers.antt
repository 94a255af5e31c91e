use Rattle.std.proofs.Common.{ap, arith}
use Rattle.write_window.specs.Window.{WindowView}
use Rattle.table_bench.proofs.buffer.Buffer.readable_one.Goals as goal

pub invariant_of-self : goal.invariant_of-self
invariant_of-self c = (
  c.readable.ensures.own c.self.inside.pool.region c.self.invariant.0,
  (
    c.self.invariant.1.0,
    (
      omega (arith, c.readable.ensures.as_many, c.self.invariant.1.1.0),
      (omega (arith, ap (λ (w : WindowView). w.size) c.readable.ensures.readable, c.self.invariant.1.1.1.0), c.self.invariant.1.1.1.1),
    ),
  ),
)
