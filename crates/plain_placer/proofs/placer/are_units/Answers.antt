use Rattle.std.proofs.Common.{arith, le-leb}
use Rattle.plain_placer.proofs.Steps.{bits_below}
use Rattle.plain_placer.proofs.placer.are_units.Goals as goal

pub returns-then-count-ge64 : goal.returns-then-count-ge64
returns-then-count-ge64 c = rw (le-leb 64 c.args.count c.if-count-ge64.true) (bits_below c.args.count c.args.set (omega arith) c.if-count-ge64.true)
