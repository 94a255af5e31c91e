use Rattle.std.proofs.Common.{◌∙◌, arith}
use Rattle.ocssd_chunks.proofs.Held.{held_count, held_first, held_later}
use Rattle.ocssd_chunks.proofs.chunk.Chunk.block.Goals as goal

-- a block that was adopted
pub returns-then-index-self-clause-block : goal.returns-then-index-self-clause-block
returns-then-index-self-clause-block c =
    let q = c.self.inside in
    let here = rw c.as_slice.ensures at c.spelled_block.ensures.block in
    rw (← c.self.view_is, here)
    (held_first q.shape.sector q.adopted_count c.args.index q.adopted q.bytes.items q.marks.items c.if-index-self.true)

-- a block that was written since
pub block_at-requires-clause-within : goal.block_at-requires-clause-within
block_at-requires-clause-within c =
    let q = c.self.inside in
    let below = rw (← c.self.view_is) at c.requires in
    rw c.deref-else-index-self.ensures.value
    (omega (arith, below, c.if-index-self.false, held_count q.shape.sector q.adopted_count q.adopted q.bytes.items q.marks.items))

pub returns-else-index-self-clause-block : goal.returns-else-index-self-clause-block
returns-else-index-self-clause-block c =
    let q = c.self.inside in
    let here = rw (c.deref.ensures.value, c.deref-else-index-self.ensures.value) at c.block_at.ensures.block in
    rw (← c.self.view_is)
    (held_later q.shape.sector q.adopted_count c.args.index q.adopted q.bytes.items q.marks.items (omega (arith, c.if-index-self.false)) ∙ here)
