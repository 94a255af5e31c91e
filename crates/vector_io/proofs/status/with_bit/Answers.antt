use Rattle.vector_io.proofs.Bits.{bit_set, bit_unset}
use Rattle.vector_io.proofs.status.with_bit.Goals as goal

pub returns-then-set : goal.returns-then-set
returns-then-set c flags len h = rw c.if-set.true (bit_set c.args.bits c.args.at c.requires flags len h)

pub returns-else-set : goal.returns-else-set
returns-else-set c flags len h = rw c.if-set.false (bit_unset c.args.bits flags h)
