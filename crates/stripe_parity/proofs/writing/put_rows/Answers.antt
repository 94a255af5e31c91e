use Rattle.std.proofs.Common.{length, map, take, refl, arith}
use Rattle.std.specs.List.{flat_map}
use Rattle.std.proofs.lemmas.List.{length-map}
use Rattle.std.proofs.lemmas.Option.{slice_get_read}
use Rattle.std.proofs.lemmas.Result.{err_from_is_err_and}
use Rattle.pblk_model.proofs.Maps.{get_mapped, pieces_all}
use Rattle.ocssd_chunks.specs.DriveChunk.{DriveChunk}
use Rattle.pblk_model.specs.ImageFile.{block_bytes}
use Rattle.stripe_parity.proofs.Putting.{some_more, puts_next}
use Rattle.stripe_parity.proofs.writing.put_rows.Goals as goal

pub returns-in_err-put_row : goal.returns-in_err-put_row
returns-in_err-put_row c =
    let p = err_from_is_err_and c.from_residual.result c.from_residual.ensures.1 in
    rw p.1 (some_more c.args.out.now.items c.loop-row.out.items c.put_row.new.out.items
    (flat_map (flat_map block_bytes) (take c.loop-row.row-index (map (λ (r : DriveChunk). r.chunk.blocks) c.args.rows.now))) c.loop-row.invariant
    c.in_err-put_row.ensures)

pub loop-row-preserved : goal.loop-row-preserved
loop-row-preserved c =
    puts_next (flat_map block_bytes)
    (map (λ (r : DriveChunk). r.chunk.blocks) c.args.rows.now) c.loop-row.row-index c.row-item.result.chunk.blocks c.args.out.now.items c.loop-row.out.items
    c.put_row.new.out.items
    (get_mapped (λ (r : DriveChunk). r.chunk.blocks) c.args.rows.now c.loop-row.row-index c.row-item.result
    (slice_get_read c.args.rows.now (length c.args.rows.now) c.loop-row.row-index c.row-item.result refl c.loop-row-test.true c.row-item.is))
    c.loop-row.invariant c.in_ok-put_row.ensures

pub returns : goal.returns
returns c = pieces_all (flat_map block_bytes)
    (map (λ (r : DriveChunk). r.chunk.blocks) c.args.rows.now) c.loop-row.row-index c.args.out.now.items c.loop-row.out.items
    (omega (arith, c.loop-row-test.false, length-map c.args.rows.now (λ (r : DriveChunk). r.chunk.blocks))) c.loop-row.invariant
