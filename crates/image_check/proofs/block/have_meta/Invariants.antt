use Rattle.std.proofs.Common.{◌≡◌, drop}
use Rattle.pblk_model.specs.StartRecord.{have_meta}
use Rattle.image_check.proofs.block.have_meta.Given as goal

abbrev pub invariant-loop-block : goal.invariant-loop-block
invariant-loop-block l = have_meta l.seq (drop l.block-index l.blocks) ≡ have_meta l.seq l.blocks
