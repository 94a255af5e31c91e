use Rattle.run_threads.proofs.Moves.{looks}
use Rattle.run_threads.proofs.board.Board.look.Goals as goal

pub load-requires : goal.load-requires
load-requires c = (c.requires.of.0, c.requires.words, looks _ _ _ _ _)
