use Rattle.std.proofs.Common.{arith}
use Rattle.ocssd_chunks.proofs.Held.{held_count}
use Rattle.ocssd_chunks.proofs.SpelledChunk.{held_spelled}
use Rattle.ocssd_chunks.proofs.chunk.Chunk.adopted.Goals as goal

pub returns-clause-blocks : goal.returns-clause-blocks
returns-clause-blocks c =
    let q = c.self.inside in
    let all = rw c.as_slice.ensures at c.are_bytes.ensures in
    rw (← c.self.view_is, c.as_slice-2.ensures)
    (held_spelled q.shape.sector q.adopted_count q.adopted q.bytes.items q.marks.items all c.self.invariant.adopted_whole)

pub returns-clause-within : goal.returns-clause-within
returns-clause-within c =
    let q = c.self.inside in
    rw (← c.self.view_is) (omega (arith, held_count q.shape.sector q.adopted_count q.adopted q.bytes.items q.marks.items))
