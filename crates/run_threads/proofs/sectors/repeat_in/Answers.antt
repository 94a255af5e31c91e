use Rattle.std.proofs.Common.{length, refl}
use Rattle.run_threads.proofs.Tags.{write_step}
use Rattle.run_threads.proofs.sectors.repeat_in.Goals as goal

pub loop-index-preserved : goal.loop-index-preserved
loop-index-preserved c =
    let l = c.loop-index in
    write_step c.args.pieces l.index (length c.args.piece.now) c.args.piece.now l.bytes c.copy_from_slice.new.self c.loop-index-test.true refl l.invariant.0
    c.copy_from_slice.ensures.after l.invariant.1
