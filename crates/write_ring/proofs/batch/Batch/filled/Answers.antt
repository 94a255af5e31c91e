use Rattle.std.proofs.Common.{arith}
use Rattle.write_ring.proofs.batch.Batch.filled.Goals as goal

pub overflow_cast-result : goal.overflow_cast-result
overflow_cast-result c = record { fits = omega (arith, c.len.ensures, c.self.invariant.few, c.self.invariant.counted) }
