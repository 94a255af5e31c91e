use Rattle.run_threads.proofs.Moves.{deals}
use Rattle.run_threads.proofs.board.Board.deal.Goals as goal

pub split_seat-requires : goal.split_seat-requires
split_seat-requires g c = (c.requires.of.0, c.requires.words, deals _ _ _ c.requires.next c.requires.past)
