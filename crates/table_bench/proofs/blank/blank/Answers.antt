use Rattle.std.proofs.Common.{◌≡◌, ◌*◌, replicate, ap, ◌∙◌}
use Rattle.pblk_model.specs.declared.chunk.ChunkState.TheVariants.{Free}
use Rattle.pblk_model.specs.declared.shape.Shape.{Shape}
use Rattle.pblk_model.specs.Shape.{units}
use Rattle.table_bench.proofs.Unwritten.{unused, chunk_count, fits_as}
use Rattle.table_bench.proofs.blank.blank.Goals as goal

pub returns : goal.returns
returns c =
    let shape = c.args.layout.now in
    let chunks : c.in_ok-chunks.chunks.items ≡ replicate (units shape * shape.chunks) Free = c.in_ok-chunks.ensures.items_if_clones_equal (λ y h. h) ∙ ap
    (λ n. replicate n Free) (chunk_count shape c.shape-shape.result.now c.units.result c.shape-shape.ensures.shape c.units.ensures) in
    let lines : c.in_ok-lines.lines.items ≡ replicate shape.chunks unused = c.in_ok-lines.ensures.items_if_clones_equal (λ y h. h) ∙ ap
    (λ (s : Shape). replicate s.chunks unused) c.shape-shape.ensures.shape in
    fits_as shape c.new.result c.new-2.result c.from_vec.result c.from_vec-2.result c.new.ensures c.new-2.ensures (c.from_vec.ensures ∙ chunks)
    (c.from_vec-2.ensures ∙ lines)
