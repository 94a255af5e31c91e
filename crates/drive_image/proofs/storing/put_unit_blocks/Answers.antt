use Rattle.std.proofs.Common.{◌≡◌, sym, ◌∙◌, arith}
use Rattle.ocssd_drive.specs.Units.{stored_chunks}
use Rattle.drive_image.specs.Storing.{chunk_bytes}
use Rattle.drive_image.proofs.Adding.{all_added, one_added, room_left}
use Rattle.drive_image.proofs.Wholes.{unit_length}
use Rattle.drive_image.proofs.storing.put_unit_blocks.Goals as goal

pub put_chunk-requires : goal.put_chunk-requires
put_chunk-requires c = room_left chunk_bytes
    (stored_chunks c.args.kept.now) c.loop-chunk.chunk _ c.args.out.now c.loop-chunk.out c.requires.room c.loop-chunk.invariant c.kept_chunk-wear.ensures.kept

pub loop-chunk-preserved : goal.loop-chunk-preserved
loop-chunk-preserved c =
    one_added chunk_bytes (stored_chunks c.args.kept.now) c.loop-chunk.chunk _ c.args.out.now c.loop-chunk.out c.put_chunk.new.out c.loop-chunk.invariant
    c.kept_chunk-wear.ensures.kept c.put_chunk.ensures

pub returns : goal.returns
returns c =
    let same : c.args.chunks ≡ c.loop-chunk.chunk = omega arith in
    all_added chunk_bytes (stored_chunks c.args.kept.now) c.loop-chunk.chunk c.args.out.now c.loop-chunk.out c.loop-chunk.invariant
    (unit_length c.args.kept.now.unit.shape c.args.kept.now c.requires.fits ∙ (sym c.requires.chunks ∙ same))
