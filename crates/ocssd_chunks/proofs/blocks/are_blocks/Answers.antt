use Rattle.std.proofs.Common.{arith}
use Rattle.std.proofs.lemmas.List.{take_all}
use Rattle.ocssd_chunks.proofs.BlockList.{all_bytes, all_blocks}
use Rattle.ocssd_chunks.proofs.blocks.are_blocks.Goals as goal

pub returns : goal.returns
returns c = all_blocks c.args.shape.now c.args.bytes.now c.args.marks.now c.requires (all_bytes c.args.bytes.now (λ k. omega (arith, c.type_inv.bytes k)))
    (rw (take_all c.loop-mark.mark-index c.args.marks.now (omega arith)) at c.loop-mark.invariant)
