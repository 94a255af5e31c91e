use Rattle.std.proofs.Common.{◌≡◌, true, take}
use Rattle.pblk_model.specs.StartRecord.{have_meta}
use Rattle.pblk_reference.proofs.start.have_meta.Given as goal

abbrev pub invariant-loop-block : goal.invariant-loop-block
invariant-loop-block l = have_meta l.seq (take l.block-index l.blocks) ≡ true
