use Rattle.std.proofs.Common.{◌+◌, ◌*◌, ◌<◌, ◌≤◌, sym, ap, ◌∙◌, subst, arith}
use Rattle.std.specs.List.{sum_by}
use Rattle.pblk_model.specs.declared.shape.Shape.{Shape}
use Rattle.pblk_model.proofs.Parts.{take_all}
use Rattle.stripe_parity.specs.declared.kept.KeptChunk.{KeptChunk}
use Rattle.stripe_parity.specs.Rebuilding.{kept_of_unit}
use Rattle.stripe_parity.proofs.Counts.{kept_in_fits, unit_kept_at, unit_kept_long}
use Rattle.stripe_parity.proofs.KeptChunks.{kept_pointer_fits}
use Rattle.stripe_parity.proofs.rebuilding.lost_blocks.Goals as goal
use Rattle.pblk_model.proofs.Numbers.{blocks_more}
use Rattle.pblk_model.proofs.AcceptedLemmas.{unit_few}
use Rattle.pblk_model.proofs.Maps.{sum_take}

pub overflow_add-blocks : goal.overflow_add-blocks
overflow_add-blocks c =
    let p = c.args.parity.now in
    let is = c.shape-shape.ensures.parity in
    let low : c.loop-chunk.chunk < p.shape.chunks = subst (λ (s : Shape). c.loop-chunk.chunk < s.chunks) c.shape-shape.ensures.shape c.loop-chunk-test.true in
    let here = (kept_pointer_fits p.shape c.kept-blocks.result
    (kept_in_fits p c.args.lost c.loop-chunk.chunk c.kept-blocks.result is c.kept-blocks.ensures)).within in
    let sum : c.loop-chunk.blocks + c.kept-blocks.result.pointer ≤ p.shape.chunks * p.shape.clba =
    blocks_more p.shape.chunks c.loop-chunk.chunk p.shape.clba c.loop-chunk.blocks c.kept-blocks.result.pointer low c.loop-chunk.invariant.few here in
    let all : p.shape.chunks * p.shape.clba ≤ 268435456 = unit_few p.shape is.accepted in
    omega arith

pub loop-chunk-preserved : goal.loop-chunk-preserved
loop-chunk-preserved c =
    let p = c.args.parity.now in
    let n = c.loop-chunk.chunk in
    let is = c.shape-shape.ensures.parity in
    let of = kept_of_unit p.chunks c.args.lost in
    let here = (kept_pointer_fits p.shape c.kept-blocks.result (kept_in_fits p c.args.lost n c.kept-blocks.result is c.kept-blocks.ensures)).within in
    record {
      sum = ap (λ m. m + c.kept-blocks.result.pointer) c.loop-chunk.invariant.sum
          ∙ sym (sum_take (λ (k : KeptChunk). k.pointer) of n c.kept-blocks.result
          (unit_kept_at p.chunks c.args.lost n c.kept-blocks.result c.kept-blocks.ensures));
      few = blocks_more (n + 1) n p.shape.clba c.loop-chunk.blocks c.kept-blocks.result.pointer (omega arith) c.loop-chunk.invariant.few here;
    }

pub returns : goal.returns
returns c =
    let p = c.args.parity.now in
    let of = kept_of_unit p.chunks c.args.lost in
    let end : p.shape.chunks ≤ c.loop-chunk.chunk = subst (λ (s : Shape). s.chunks ≤ c.loop-chunk.chunk) c.shape-shape.ensures.shape c.loop-chunk-test.false in
    c.loop-chunk.invariant.sum ∙ ap (sum_by (λ (k : KeptChunk). k.pointer))
    (take_all of c.loop-chunk.chunk (omega (arith, end, unit_kept_long p c.args.lost c.shape-shape.ensures.parity c.requires)))
