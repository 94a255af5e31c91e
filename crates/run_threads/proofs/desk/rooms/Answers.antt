use Rattle.run_threads.proofs.Running.{rooms_more}
use Rattle.run_threads.proofs.desk.rooms.Goals as goal

pub loop-command-preserved : goal.loop-command-preserved
loop-command-preserved c =
    let l = c.loop-command in
    rw c.in_ok-push.ensures.items
    (rooms_more c.args.commands.now l.command-index l.rooms.items c.command-item.result c.in_ok-room.field-0 c.loop-command-test.true c.command-item.is
    l.invariant c.in_ok-room.ensures)
