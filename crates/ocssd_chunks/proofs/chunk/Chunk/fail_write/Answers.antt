use Rattle.std.proofs.Common.{refl, arith}
use Rattle.std.proofs.Math.Nat.{mul-mod_left}
use Rattle.ocssd_chunks.proofs.Writes.{taken}
use Rattle.ocssd_chunks.proofs.chunk.Chunk.fail_write.Goals as goal
use Rattle.pblk_model.proofs.BlocksLemmas.{length-blocks_of}

pub append-requires-clause-place : goal.append-requires-clause-place
append-requires-clause-place c =
    let q = c.self.inside in
    let is_taken = taken q.shape q.state _ c.args.at _ (rw (← c.self.view_is) at c.requires.taken) in
    let part = rw (← c.self.view_is) at c.requires.part in
    let written = length-blocks_of q.shape.sector c.args.bytes.now c.args.marks.now in
    rw (← c.self.view_is, c.first_blocks.ensures.count) (omega (arith, is_taken.room))

pub append-requires-clause-multiple : goal.append-requires-clause-multiple
append-requires-clause-multiple c = rw (← c.self.view_is, c.first_blocks.ensures.count) (mul-mod_left c.args.multiples c.self.inside.shape.ws_min)

pub returns-clause-chunk : goal.returns-clause-chunk
returns-clause-chunk c = rw (c.append.ensures.chunk, ← c.self.view_is, c.first_blocks.ensures.first) refl

pub returns-clause-failure : goal.returns-clause-failure
returns-clause-failure c =
    let written = length-blocks_of c.args.self.now.shape.sector c.args.bytes.now c.args.marks.now in
    (c.requires.taken, c.args.multiples, rw written c.requires.part, returns-clause-chunk c)
