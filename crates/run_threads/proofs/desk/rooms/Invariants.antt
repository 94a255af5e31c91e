use Rattle.std.proofs.Common.{take}
use Rattle.run_threads.specs.Rooms.{HaveWordRoom}
use Rattle.run_threads.proofs.desk.rooms.Given as goal

abbrev pub invariant-loop-command : goal.invariant-loop-command
invariant-loop-command l = HaveWordRoom (take l.command-index l.commands) l.rooms.items
