use Rattle.std.proofs.Common.{length, ap, arith}
use Rattle.ocssd_chunks.proofs.Held.{held_alone}
use Rattle.ocssd_chunks.proofs.SpelledChunk.{spelled_chunk, spelled_so}
use Rattle.ocssd_chunks.proofs.chunk.Chunk.adopt.Goals as goal
use Rattle.pblk_model.proofs.ChunkLemmas.{pointer_within}

pub returns-clause-blocks : goal.returns-clause-blocks
returns-clause-blocks c =
    let q = c.self.inside in
    let all = rw c.as_slice.ensures at c.are_bytes.ensures in
    rw (held_alone q.shape.sector c.args.count c.args.kept c.clear.new.self.items c.clear-2.new.self.items c.clear-2.ensures.items)
    (spelled_so q.shape.sector c.args.count c.args.kept all (rw (← c.self.view_is) at c.requires.whole))

pub returns-clause-fits : goal.returns-clause-fits
returns-clause-fits c =
    let q = c.self.inside in
    let all = rw c.as_slice.ensures at c.are_bytes.ensures in
    rw (held_alone q.shape.sector c.args.count c.args.kept c.clear.new.self.items c.clear-2.new.self.items c.clear-2.ensures.items)
    (spelled_chunk q.shape c.args.state c.args.count c.args.kept all (rw (← c.self.view_is) at c.requires.whole)
    (rw (← c.self.view_is) at c.requires.place) (rw (← c.self.view_is) at c.requires.multiple))

pub invariant_of-self : goal.invariant_of-self
invariant_of-self c =
    let q = c.self.inside in
    let within = pointer_within c.args.state q.shape.clba c.args.count (rw (← c.self.view_is) at c.requires.place) in
    let no_bytes = ap length c.clear.ensures.items in
    let no_marks = ap length c.clear-2.ensures.items in
    record {
      accepted = c.self.invariant.accepted;
      fits = returns-clause-fits c;
      counted = c.self.invariant.counted;
      within = omega (arith, within, no_marks);
      adopted_whole = rw (← c.self.view_is) at c.requires.whole;
      whole = rw no_marks (omega (arith, no_bytes));
      room_for_bytes = omega (arith, c.self.invariant.room_for_bytes, c.clear.ensures.capacity);
      room_for_marks = omega (arith, c.self.invariant.room_for_marks, c.clear-2.ensures.capacity);
    }
