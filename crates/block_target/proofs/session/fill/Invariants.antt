use Rattle.block_target.proofs.Fills.{IsFilling}
use Rattle.block_target.proofs.session.fill.Given as goal

abbrev pub invariant-loop-index : goal.invariant-loop-index
invariant-loop-index l = IsFilling l.fn.batch l.batch l.lba l.size l.index l.bytes
