use Rattle.std.proofs.Common.{take, arith}
use Rattle.std.specs.List.{flat_map}
use Rattle.std.proofs.lemmas.Option.{slice_get-get_or}
use Rattle.std.proofs.lemmas.Result.{err_from_is_err_and}
use Rattle.stripe_parity.specs.ParityBytes.{kept_bytes}
use Rattle.stripe_parity.proofs.Putting.{some_more, puts_next}
use Rattle.stripe_parity.proofs.writing.put_unit.Goals as goal
use Rattle.pblk_model.proofs.Maps.{pieces_all}

pub returns-in_err-put_kept : goal.returns-in_err-put_kept
returns-in_err-put_kept c =
    let p = err_from_is_err_and c.from_residual.result c.from_residual.ensures.1 in
    rw p.1 (some_more c.args.out.now.items c.loop-chunk.out.items c.put_kept.new.out.items
    (flat_map kept_bytes (take c.loop-chunk.chunk-index c.args.kept.now)) c.loop-chunk.invariant c.in_err-put_kept.ensures)

pub loop-chunk-preserved : goal.loop-chunk-preserved
loop-chunk-preserved c =
    puts_next kept_bytes c.args.kept.now c.loop-chunk.chunk-index _ c.args.out.now.items c.loop-chunk.out.items c.put_kept.new.out.items
    (slice_get-get_or c.args.kept.now c.loop-chunk.chunk-index _ c.loop-chunk-test.true) c.loop-chunk.invariant c.in_ok-put_kept.ensures

pub returns : goal.returns
returns c = pieces_all kept_bytes c.args.kept.now c.loop-chunk.chunk-index c.args.out.now.items c.loop-chunk.out.items
    (omega (arith, c.loop-chunk-test.false)) c.loop-chunk.invariant
