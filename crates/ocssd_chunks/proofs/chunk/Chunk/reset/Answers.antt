use Rattle.std.proofs.Common.{sym}
use Rattle.ocssd_chunks.specs.Sound.{drive_chunk}
use Rattle.ocssd_chunks.proofs.Resets.{after_reset_is}
use Rattle.ocssd_chunks.proofs.chunk.Chunk.reset.Goals as goal

pub returns-clause-done : goal.returns-clause-done
returns-clause-done c =
    let q = c.self.inside in
    let pointer_is = rw (← c.self.view_is) at c.pointer.ensures.pointer in
    rw (← c.self.view_is)
    (after_reset_is q.shape (drive_chunk q).chunk _ _ _ pointer_is c.state_after_reset-state.ensures.chunk c.leave_empty.ensures.chunk)

pub returns-clause-step : goal.returns-clause-step
returns-clause-step c = (rw (← c.self.view_is) (sym c.in_ok-check_reset.ensures), returns-clause-done c)
