use Rattle.std.proofs.Common.{◌+◌, ◌≤◌, length, refl, ap, ◌∙◌, arith, length-append}
use Rattle.std.proofs.Math.Nat.{mul-le-mul_right}
use Rattle.pblk_model.specs.Blocks.{blocks_of}
use Rattle.ocssd_chunks.specs.Sound.{drive_chunk}
use Rattle.ocssd_chunks.proofs.Held.{held_more, room}
use Rattle.ocssd_chunks.proofs.Writes.{IsChunk-joined}
use Rattle.ocssd_chunks.proofs.chunk.Chunk.append.Goals as goal
use Rattle.pblk_model.proofs.BlocksLemmas.{length-blocks_of}

pub append_bytes-requires : goal.append_bytes-requires
append_bytes-requires c =
    let q = c.self.inside in
    let whole = rw (← c.self.view_is) at c.requires.whole in
    let within = room q.shape c.args.state q.adopted_count q.adopted q.bytes.items q.marks.items _ (rw (← c.self.view_is) at c.requires.place) in
    let later : length q.marks.items + length c.args.marks.now ≤ q.shape.clba = omega (arith, within) in
    omega (arith, c.self.invariant.whole, c.self.invariant.room_for_bytes, q.bytes.ok.0, mul-le-mul_right q.shape.sector later)

pub append_marks-requires : goal.append_marks-requires
append_marks-requires c =
    let q = c.self.inside in
    let within = room q.shape c.args.state q.adopted_count q.adopted q.bytes.items q.marks.items _ (rw (← c.self.view_is) at c.requires.place) in
    omega (arith, c.self.invariant.room_for_marks, q.marks.ok.0)

pub returns-clause-chunk : goal.returns-clause-chunk
returns-clause-chunk c =
    let q = c.self.inside in
    rw (
      ← c.self.view_is,
      c.append_bytes.ensures.items,
      c.append_marks.ensures.items,
      held_more q.shape.sector q.adopted_count q.adopted q.bytes.items c.args.bytes.now q.marks.items c.args.marks.now c.self.invariant.whole,
    ) refl

pub returns-clause-fits : goal.returns-clause-fits
returns-clause-fits c =
    let q = c.self.inside in
    let more = blocks_of q.shape.sector c.args.bytes.now c.args.marks.now in
    let count = length-blocks_of q.shape.sector c.args.bytes.now c.args.marks.now in
    let place = rw (← c.self.view_is) at c.requires.place in
    let multiple = rw (← c.self.view_is) at c.requires.multiple in
    rw (
      c.append_bytes.ensures.items,
      c.append_marks.ensures.items,
      held_more q.shape.sector q.adopted_count q.adopted q.bytes.items c.args.bytes.now q.marks.items c.args.marks.now c.self.invariant.whole,
    ) (IsChunk-joined q.shape (drive_chunk q).chunk c.args.state more c.self.invariant.fits (rw count place) (rw count multiple) c.are_blocks.ensures)

pub invariant_of-self : goal.invariant_of-self
invariant_of-self c =
    let q = c.self.inside in
    let whole = rw (← c.self.view_is) at c.requires.whole in
    let within = room q.shape c.args.state q.adopted_count q.adopted q.bytes.items q.marks.items _ (rw (← c.self.view_is) at c.requires.place) in
    let bytes_sum = ap length c.append_bytes.ensures.items ∙ length-append q.bytes.items c.args.bytes.now in
    let marks_sum = ap length c.append_marks.ensures.items ∙ length-append q.marks.items c.args.marks.now in
    record {
      accepted = c.self.invariant.accepted;
      fits = returns-clause-fits c;
      counted = c.self.invariant.counted;
      within = omega arith;
      adopted_whole = c.self.invariant.adopted_whole;
      whole = rw marks_sum (omega (arith, c.self.invariant.whole));
      room_for_bytes = omega arith;
      room_for_marks = omega arith;
    }
