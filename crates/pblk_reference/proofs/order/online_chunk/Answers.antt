use Rattle.std.proofs.Common.{sym, ap, ◌∙◌}
use Rattle.pblk_model.specs.Chunk.{Chunk}
use Rattle.pblk_model.specs.Image.{is_online_in}
use Rattle.pblk_reference.proofs.Line.{found_at, none_at, no_chunk, online_is, offline_is}
use Rattle.pblk_reference.proofs.order.online_chunk.Goals as goal

pub returns-in_err-chunk : goal.returns-in_err-chunk
returns-in_err-chunk c = rw c.from_residual.ensures (no_chunk c.args.line c.args.unit.now (none_at c.args.unit.now c.args.line c.in_err-chunk.ensures.lookup.0))

pub returns-then-is_online : goal.returns-then-is_online
returns-then-is_online c = online_is c.args.line c.args.unit.now c.in_ok-chunk.chunk.now
    (found_at c.args.unit.now c.args.line c.in_ok-chunk.chunk.now c.in_ok-chunk.ensures.lookup.0 c.in_ok-chunk.ensures.lookup.1)
    (sym (ap (λ (k : Chunk). is_online_in k.state) c.chunk.view_is) ∙ sym c.is_online.ensures ∙ c.if-is_online.true)

pub returns-else-is_online : goal.returns-else-is_online
returns-else-is_online c = offline_is c.args.line c.args.unit.now c.in_ok-chunk.chunk.now
    (found_at c.args.unit.now c.args.line c.in_ok-chunk.chunk.now c.in_ok-chunk.ensures.lookup.0 c.in_ok-chunk.ensures.lookup.1)
    (sym (ap (λ (k : Chunk). is_online_in k.state) c.chunk.view_is) ∙ sym c.is_online.ensures ∙ c.if-is_online.false)
