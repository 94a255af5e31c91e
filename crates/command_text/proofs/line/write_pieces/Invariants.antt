use Rattle.std.proofs.Common.{take}
use Rattle.std.specs.List.{flat_map}
use Rattle.command_text.specs.Says.{HasTaken}
use Rattle.command_text.proofs.line.write_pieces.Given as goal

abbrev pub invariant-loop-piece : goal.invariant-loop-piece
invariant-loop-piece g l = HasTaken (flat_map (λ piece. piece.now) (take l.piece-index l.pieces)) (g.O.Sink.view l.fn.out) (g.O.Sink.view l.out)
