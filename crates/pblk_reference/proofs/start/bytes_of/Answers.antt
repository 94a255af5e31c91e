use Rattle.std.proofs.Common.{[], ◌++◌, ap, ◌∙◌}
use Rattle.pblk_model.specs.Chunk.{Block}
use Rattle.pblk_reference.proofs.Words.{piece_more}
use Rattle.pblk_reference.proofs.start.bytes_of.Goals as goal
use Rattle.pblk_model.proofs.Maps.{pieces_all}

pub loop-block-preserved : goal.loop-block-preserved
loop-block-preserved c =
    let sector = c.deref.ensures.value ∙ ap (λ (b : Block). b.sector) (c.block.view_is ∙ c.block-item.is) in
    let now = c.in_ok-extend_from_slice.ensures.items ∙ ap (λ xs. c.loop-block.bytes.items ++ xs) sector in
    piece_more (λ b. b.sector) c.args.blocks.now c.loop-block.block-index c.block-item.result [] c.loop-block.bytes.items c.extend_from_slice.new.self.items
    c.loop-block-test.true now c.loop-block.invariant

pub returns : goal.returns
returns c = pieces_all (λ b. b.sector) c.args.blocks.now c.loop-block.block-index [] c.loop-block.bytes.items c.loop-block-test.false c.loop-block.invariant
