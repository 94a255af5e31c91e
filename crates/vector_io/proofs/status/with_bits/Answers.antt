use Rattle.std.proofs.Common.{◌-◌, ◌++◌, replicate, subst}
use Rattle.vector_io.specs.Status.{HasBits}
use Rattle.vector_io.proofs.Bits.{flags_grow, flags_len}
use Rattle.vector_io.proofs.status.with_bits.Goals as goal

pub loop-at-preserved : goal.loop-at-preserved
loop-at-preserved c flags len h = subst (HasBits c.with_bit-bits.result) (flags_grow flags c.args.from c.loop-at.at c.args.set c.loop-at.auto.at)
    (c.with_bit-bits.ensures (flags ++ replicate (c.loop-at.at - c.args.from) c.args.set)
    (flags_len flags c.args.from c.loop-at.at c.args.set c.loop-at.auto.at len) (c.loop-at.invariant flags len h))
