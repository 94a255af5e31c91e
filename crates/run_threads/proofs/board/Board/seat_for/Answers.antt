use Rattle.run_threads.proofs.Placed.{rises}
use Rattle.run_threads.proofs.board.Board.seat_for.Goals as goal

pub deal-requires-clause-next : goal.deal-requires-clause-next
deal-requires-clause-next c = rises c.args.commands.now c.args.seat.now.me.0.next
