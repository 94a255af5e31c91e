use Rattle.std.proofs.Common.{◌++◌, length, reverse, append-nil, ap, sym, ◌∙◌, arith, le_trans}
use Rattle.block_target.proofs.FirstArms.{moved_on, one_longer}
use Rattle.block_target.proofs.closing.gather.Goals as goal

pub loop-worker-init : goal.loop-worker-init
loop-worker-init g c =
    let none = ap length c.requires.empty in (
      sym (ap (λ xs. c.args.workers.items ++ reverse xs) c.requires.empty ∙ append-nil c.args.workers.items),
      omega (arith, none),
      omega arith,
    )

pub loop-worker-preserved : goal.loop-worker-preserved
loop-worker-preserved g c =
    let at = c.loop-worker.invariant in
    let rest = c.pop.new.self.items in
    let worker = c.in-Some.worker in (
      moved_on c.args.workers.items c.loop-worker.workers.items rest c.loop-worker.room.items c.put.new.values.items worker at.0 c.in-Some.ensures.items
          c.put.ensures.items,
      omega (
        arith,
        one_longer rest c.loop-worker.workers.items worker c.in-Some.ensures.items,
        one_longer c.loop-worker.room.items c.put.new.values.items worker c.put.ensures.items,
        at.1,
      ),
      le_trans at.2 c.put.ensures.capacity,
    )
