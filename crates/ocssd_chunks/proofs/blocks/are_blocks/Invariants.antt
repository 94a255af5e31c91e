use Rattle.std.proofs.Common.{take}
use Rattle.std.specs.List.{AllByRecursion}
use Rattle.pblk_model.specs.Blocks.{IsMark}
use Rattle.ocssd_chunks.proofs.blocks.are_blocks.Given as goal

abbrev pub invariant-loop-mark : goal.invariant-loop-mark
invariant-loop-mark l = AllByRecursion IsMark (take l.mark-index l.marks)
