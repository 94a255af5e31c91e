use Rattle.std.proofs.Common.{◌≡◌, ◌+◌, ◌-◌, ◌*◌, arith}
use Rattle.ocssd_chunks.proofs.BlockList.{slice_get-blocks_of}
use Rattle.ocssd_chunks.proofs.blocks.block_at.Goals as goal

pub returns-clause-block : goal.returns-clause-block
returns-clause-block c =
    let start = c.args.index * c.args.size in
    let length_of_part : start + c.args.size - start ≡ c.args.size = omega arith in
    rw length_of_part (slice_get-blocks_of c.args.size c.args.bytes.now c.args.marks.now c.args.index _ c.requires.within)
