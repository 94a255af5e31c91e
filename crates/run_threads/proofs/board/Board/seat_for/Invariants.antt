use Rattle.run_threads.specs.Names.{words_after}
use Rattle.run_threads.proofs.board.Board.seat_for.Given as goal

abbrev pub ghosts-deal : goal.ghosts-deal
ghosts-deal a = record { past = words_after a.seat.now.me.0.next a._commands.now }
