use Rattle.std.proofs.Common.{arith}
use Rattle.command_text.proofs.Saying.{on_err, pieces_failed}
use Rattle.command_text.proofs.line.write_pieces.Goals as goal

pub returns-in_err-write-clause-failed : goal.returns-in_err-write-clause-failed
returns-in_err-write-clause-failed g c = on_err c.from_residual.result _
    (pieces_failed c.args.pieces.now c.loop-piece.piece-index _ _ _ _ (omega arith) c.loop-piece.invariant c.in_err-write.ensures.failed)
