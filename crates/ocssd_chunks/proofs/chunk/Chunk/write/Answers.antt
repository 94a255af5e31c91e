use Rattle.std.proofs.Common.{refl, sym, arith}
use Rattle.std.proofs.lemmas.Result.{err_from_is_err_and}
use Rattle.ocssd_chunks.specs.Sound.{drive_chunk}
use Rattle.ocssd_chunks.proofs.Writes.{refusal-blocks_of, taken, placed}
use Rattle.ocssd_chunks.proofs.chunk.Chunk.write.Goals as goal
use Rattle.pblk_model.proofs.BlocksLemmas.{length-blocks_of}

-- a refusal: what `check_write` answers, at the blocks
pub returns-in_err-check_write-clause-step : goal.returns-in_err-check_write-clause-step
returns-in_err-check_write-clause-step c =
    let q = c.self.inside in
    let answer = err_from_is_err_and c.from_residual.result c.from_residual.ensures.1 in
    let pointer_is = rw (← c.self.view_is) at c.pointer-pointer.ensures.pointer in
    rw (answer.1, answer.2, ← c.self.view_is) (
      refusal-blocks_of q.shape (drive_chunk q).chunk c.args.bytes.now c.args.marks.now _ _ _ pointer_is c.in_err-check_write.ensures,
      refl,
    )

pub append-requires-clause-place : goal.append-requires-clause-place
append-requires-clause-place c =
    let q = c.self.inside in
    let is_taken = taken q.shape q.state _ c.args.at _ (sym c.in_ok-check_write.ensures) in
    let pointer_is = rw (← c.self.view_is) at c.pointer-pointer.ensures.pointer in
    rw (c.state_at-state.ensures, ← c.self.view_is, ← pointer_is) (placed _ q.shape.clba (omega (arith, is_taken.some)) (omega (arith, is_taken.room)))

-- a write that is done
pub returns-clause-done : goal.returns-clause-done
returns-clause-done c =
    let q = c.self.inside in
    let more = length-blocks_of q.shape.sector c.args.bytes.now c.args.marks.now in
    let pointer_is = rw (← c.self.view_is) at c.pointer-pointer.ensures.pointer in
    rw (c.append.ensures.chunk, c.state_at-state.ensures, ← c.self.view_is, more, ← pointer_is) refl

pub returns-clause-step : goal.returns-clause-step
returns-clause-step c =
    let q = c.self.inside in
    let pointer_is = rw (← c.self.view_is) at c.pointer-pointer.ensures.pointer in (
      rw (← c.self.view_is)
          (refusal-blocks_of q.shape (drive_chunk q).chunk c.args.bytes.now c.args.marks.now _ _ _ pointer_is c.in_ok-check_write.ensures),
      returns-clause-done c,
    )
