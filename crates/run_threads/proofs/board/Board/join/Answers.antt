use Rattle.run_threads.proofs.Moves.{meets}
use Rattle.run_threads.proofs.board.Board.join.Goals as goal

pub join_seat-requires : goal.join_seat-requires
join_seat-requires c = (c.requires.of.0, c.requires.other_of.0, c.requires.other_of.1, c.requires.words, meets _ _ _ _)
