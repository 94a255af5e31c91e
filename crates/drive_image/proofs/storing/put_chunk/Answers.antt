use Rattle.std.proofs.Common.{List, ℕ, arith, subst, sym}
use Rattle.pblk_model.specs.ImageFile.{block_bytes}
use Rattle.drive_image.proofs.Adding.{first_added, one_added, room_first, room_left}
use Rattle.drive_image.specs.Storing.{HasCapacity}
use Rattle.drive_image.proofs.storing.put_chunk.Goals as goal

pub put_block-requires : goal.put_block-requires
put_block-requires c = room_left block_bytes c.args.chunk.now.chunk.blocks c.loop-block.block _ c.args.out.now c.loop-block.out c.requires
    c.loop-block.invariant (sym c.in-Some.ensures.block)

pub loop-block-preserved : goal.loop-block-preserved
loop-block-preserved c =
    one_added block_bytes c.args.chunk.now.chunk.blocks c.loop-block.block _ c.args.out.now c.loop-block.out c.put_block.new.out c.loop-block.invariant
    (sym c.in-Some.ensures.block) c.put_block.ensures

pub put-requires : goal.put-requires
put-requires c =
    let room = subst (λ (bytes : List ℕ). HasCapacity c.args.out.now bytes) c.adopted-adopted.ensures.blocks.spelling
    (room_first block_bytes c.args.chunk.now.chunk.blocks c.adopted-adopted.result.1 c.args.out.now c.requires) in
    omega (arith, room, c.args.out.now.ok.0)

pub loop-block-init : goal.loop-block-init
loop-block-init c =
    first_added block_bytes c.args.chunk.now.chunk.blocks c.adopted-adopted.result.1 c.adopted-adopted.result.0.now c.args.out.now c.put.new.out
    c.adopted-adopted.ensures.blocks.spelling (record { items = c.put.ensures.items; capacity = c.put.ensures.capacity })
