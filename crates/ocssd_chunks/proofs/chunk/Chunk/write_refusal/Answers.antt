use Rattle.std.proofs.Common.{sym, ◌∙◌}
use Rattle.ocssd_chunks.specs.Sound.{drive_chunk}
use Rattle.ocssd_chunks.proofs.Writes.{refusal-blocks_of}
use Rattle.ocssd_chunks.proofs.chunk.Chunk.write_refusal.Goals as goal

pub returns : goal.returns
returns c =
    let q = c.self.inside in
    let pointer_is = rw (← c.self.view_is) at c.pointer-pointer.ensures.pointer in
    rw (← c.self.view_is) (sym (refusal-blocks_of q.shape (drive_chunk q).chunk c.args.bytes.now c.args.marks.now _ _ _ pointer_is
    (c.err.ensures.value ∙ c.check_write.ensures)))
