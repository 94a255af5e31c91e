use Rattle.std.proofs.Common.{◌≡◌, ◌≤◌, length, take, drop}
use Rattle.std.specs.Vec.{vec_len, vec_capacity}
use Rattle.run_threads.specs.Board.{IsSeatOf}
use Rattle.run_threads.proofs.Running.{IsRunning}
use Rattle.run_threads.proofs.desk.Desk.run.Given as goal

abbrev pub invariant-loop-index : goal.invariant-loop-index
invariant-loop-index g l = record {
  running : IsRunning l.board (g.P.Port.model l.fn.port) (g.P.Port.model l.port) (take l.index l.commands) (drop l.index l.commands)
      l.self.answers.items (drop l.index l.self.rooms.items) l.self.seat.me.0;
  bytes : length l.self.bytes.items ≡ 65536;
  answered : vec_len l.self.answers ≡ l.index;
  room : length l.commands ≤ vec_capacity l.self.answers;
  rooms : length l.self.rooms.items ≡ length l.commands;
  of : IsSeatOf l.board l.self.seat;
}
