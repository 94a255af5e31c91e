use Rattle.std.proofs.Common.{refl, sym}
use Rattle.ocssd_chunks.proofs.chunk.Chunk.read.Goals as goal

-- the fields' write pointer is that of the chunk that contracts see
pub returns-then-not-is_readable-clause-step : goal.returns-then-not-is_readable-clause-step
returns-then-not-is_readable-clause-step c =
    let pointer_is = rw (← c.self.view_is) at c.pointer-pointer.ensures.pointer in
    rw (← c.self.view_is, ← pointer_is) (
      sym c.in_ok-check_read.ensures,
      λ readable. cc (c.if-not-is_readable.ensures.1 readable),
      refl,
    )

-- the sector that was copied is the block's
pub returns-clause-step : goal.returns-clause-step
returns-clause-step c =
    let pointer_is = rw (← c.self.view_is) at c.pointer-pointer.ensures.pointer in
    let block = rw (← c.self.view_is) at c.block.ensures.block in
    rw (← c.self.view_is, c.copy_from_slice.ensures.after) (
      sym c.in_ok-check_read.ensures,
      rw (← pointer_is) (c.if-not-is_readable.ensures.0 refl),
      block,
      refl,
    )
