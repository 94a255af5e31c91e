use Rattle.std.proofs.Common.{arith}
use Rattle.ocssd_chunks.proofs.Held.{held_count}
use Rattle.ocssd_chunks.proofs.chunk.Chunk.pointer.Goals as goal

pub returns-clause-pointer : goal.returns-clause-pointer
returns-clause-pointer c =
    let q = c.self.inside in
    let count = held_count q.shape.sector q.adopted_count q.adopted q.bytes.items q.marks.items in
    rw (← c.self.view_is) (omega (arith, count, c.self.invariant.within, c.self.invariant.counted, q.marks.ok.0))
