use Rattle.run_threads.proofs.Moves.{hears}
use Rattle.run_threads.proofs.board.Board.look_up.Goals as goal

pub load-found-requires : goal.load-found-requires
load-found-requires c = (c.requires.of.0, c.requires.within, hears _ _ _ _ _)
