use Rattle.std.proofs.Common.{◌*◌, ◌<◌, refl, arith, inr}
use Rattle.std.proofs.Math.Nat.{mul-mod_left, pos_of_ne-zero}
use Rattle.std.proofs.lemmas.List.{length-take-le}
use Rattle.pblk_model.specs.Blocks.{blocks_of}
use Rattle.ocssd_chunks.proofs.Writes.{taken, placed, some_blocks}
use Rattle.ocssd_chunks.proofs.chunk.Chunk.cut_write.Goals as goal
use Rattle.pblk_model.proofs.BlocksLemmas.{length-blocks_of}

pub append-requires-clause-place : goal.append-requires-clause-place
append-requires-clause-place c =
    let q = c.self.inside in
    let is_taken = taken q.shape q.state _ c.args.at _ (rw (← c.self.view_is) at c.requires.taken) in
    let part = rw (← c.self.view_is) at c.requires.part in
    let more = length-blocks_of q.shape.sector c.args.bytes.now c.args.marks.now in
    let pointer_is = rw (← c.self.view_is) at c.pointer.ensures.pointer in
    let some = some_blocks c.args.multiples q.shape.ws_min c.if-multiples-eq0.false c.self.invariant.accepted.drive.ws_min in
    rw (c.state_at-state.ensures, ← c.self.view_is, c.first_blocks.ensures.count, ← pointer_is)
    (placed _ q.shape.clba (omega arith) (omega (arith, is_taken.room)))

pub append-requires-clause-multiple : goal.append-requires-clause-multiple
append-requires-clause-multiple c = rw (← c.self.view_is, c.first_blocks.ensures.count) (mul-mod_left c.args.multiples c.self.inside.shape.ws_min)

pub returns-clause-chunk : goal.returns-clause-chunk
returns-clause-chunk c = λ some.
    let q = c.self.inside in
    let part = rw (← c.self.view_is) at c.requires.part in
    let blocks = blocks_of q.shape.sector c.args.bytes.now c.args.marks.now in
    let more = length-blocks_of q.shape.sector c.args.bytes.now c.args.marks.now in
    let count = length-take-le (c.args.multiples * q.shape.ws_min) blocks (omega arith) in
    let pointer_is = rw (← c.self.view_is) at c.pointer.ensures.pointer in
    rw (c.append.ensures.chunk, c.state_at-state.ensures, ← c.self.view_is, c.first_blocks.ensures.first, count, ← pointer_is) refl

pub returns-clause-stop : goal.returns-clause-stop
returns-clause-stop c =
    let more = length-blocks_of c.args.self.now.shape.sector c.args.bytes.now c.args.marks.now in
    let some : 0 < c.args.multiples = pos_of_ne-zero c.if-multiples-eq0.false in
    inr (c.requires.taken, (c.args.multiples, some, rw more c.requires.part, returns-clause-chunk c some))
