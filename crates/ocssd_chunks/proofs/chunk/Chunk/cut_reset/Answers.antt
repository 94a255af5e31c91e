use Rattle.std.proofs.Common.{inr}
use Rattle.ocssd_chunks.specs.Sound.{drive_chunk}
use Rattle.ocssd_chunks.proofs.Resets.{after_reset_is}
use Rattle.ocssd_chunks.proofs.chunk.Chunk.cut_reset.Goals as goal

pub returns-then-done-clause-done : goal.returns-then-done-clause-done
returns-then-done-clause-done c =
    let q = c.self.inside in
    let pointer_is = rw (← c.self.view_is) at c.pointer.ensures.pointer in
    rw (c.if-done.true, ← c.self.view_is)
    (after_reset_is q.shape (drive_chunk q).chunk _ _ _ pointer_is c.state_after_reset-state.ensures.chunk c.leave_empty.ensures.chunk)

pub returns-then-done-clause-stop : goal.returns-then-done-clause-stop
returns-then-done-clause-stop c =
    let q = c.self.inside in
    let pointer_is = rw (← c.self.view_is) at c.pointer.ensures.pointer in
    inr (
      c.requires,
      rw (← c.self.view_is)
          (after_reset_is q.shape (drive_chunk q).chunk _ _ _ pointer_is c.state_after_reset-state.ensures.chunk c.leave_empty.ensures.chunk),
    )
