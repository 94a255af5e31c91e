use Rattle.std.proofs.Common.{arith, le_trans}
use Rattle.block_target.proofs.FirstArms.{one_longer}
use Rattle.block_target.proofs.FirstTickets.{more_sessions}
use Rattle.block_target.proofs.target.make_tickets.Goals as goal

pub loop-number-preserved : goal.loop-number-preserved
loop-number-preserved g c =
    let at = c.loop-number.invariant in
    let ticket = c.make_ticket.result in
    let out = at.4 in
    let less = c.make_ticket.ensures.less in (
      more_sessions g.M.Mount.past g.M.Mount.key c.loop-number.number c.loop-number.tickets.items c.put.new.values.items ticket at.0
          c.make_ticket.ensures.ticket c.put.ensures.items,
      omega (arith, one_longer c.loop-number.tickets.items c.put.new.values.items ticket c.put.ensures.items, at.1),
      le_trans at.2 c.put.ensures.capacity,
      c.make_ticket.ensures.supply,
      record {
        workers = omega (arith, out.workers, less.workers);
        lists = omega (arith, out.lists, less.lists);
        batches = omega (arith, out.batches, less.batches);
      },
    )
