use Rattle.pblk_model.specs.ImageFile.{block_bytes}
use Rattle.drive_image.proofs.Adding.{FirstAdded}
use Rattle.drive_image.proofs.storing.put_chunk.Given as goal

abbrev pub invariant-loop-block : goal.invariant-loop-block
invariant-loop-block l = FirstAdded block_bytes l.chunk.chunk.blocks l.block l.fn.out l.out
