use Rattle.std.proofs.Common.{◌≡◌, ◌+◌, ◌-◌, ◌*◌, drop, arith}
use Rattle.pblk_model.proofs.SpelledBlocks.{block_front}
use Rattle.ocssd_chunks.proofs.blocks.spelled_block.Goals as goal

pub returns-clause-block : goal.returns-clause-block
returns-clause-block c =
    let size = c.args.size in
    let start = c.args.index * (size + 16) in
    let length_of_part : start + size + 16 - start ≡ size + 16 = omega arith in
    rw (c.mark_at.ensures, length_of_part) (block_front size (drop start c.args.bytes.now))
