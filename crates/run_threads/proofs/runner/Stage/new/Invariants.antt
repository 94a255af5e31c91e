use Rattle.std.proofs.Common.{◌≡◌, [], take}
use Rattle.run_threads.specs.Board.{IsSeatOf}
use Rattle.run_threads.specs.Desk.{AreReady}
use Rattle.run_threads.specs.Names.{all_of, words_after}
use Rattle.run_threads.proofs.runner.Stage.new.Given as goal

abbrev pub invariant-loop-thread : goal.invariant-loop-thread
invariant-loop-thread l = record {
  of : IsSeatOf l.board l.seat;
  view : l.seat.me.0 ≡ record {
    next = words_after 0 (all_of (take l.thread-index l.thread-items));
    past = words_after 0 (all_of l.fn.script);
    known = [];
  };
  ready : AreReady l.board (take l.thread-index l.thread-items) l.desks.items;
}
