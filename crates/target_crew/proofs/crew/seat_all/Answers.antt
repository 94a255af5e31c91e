use Rattle.std.proofs.Common.{◌≡◌, ◌+◌, length, ap, ◌∙◌, arith}
use Rattle.block_target.specs.Sessions.{SessionView}
use Rattle.block_target.proofs.FirstArms.{one_longer}
use Rattle.target_crew.proofs.Places.{put_on, taken_off}
use Rattle.target_crew.proofs.crew.seat_all.Goals as goal

pub loop-tickets-preserved : goal.loop-tickets-preserved
loop-tickets-preserved g c =
    let l = c.loop-tickets in
    let n = length c.args.tickets.now.items in
    let rest = c.take_last.new.values.items in
    let off = taken_off l.tickets.items rest c.take_last.result (λ k t. t.worker.number ≡ k) c.take_last.ensures.items l.invariant.numbered in
    let same = ap (λ (t : SessionView). t.worker.number) c.session-session.ensures in
    let here = off.1 in
    let fewer = off.2 in
    let count = l.invariant.count in
    let number : c.session-session.result.worker.number ≡ length rest = same ∙ here in
    let at : c.session-session.result.worker.number + length l.seats.items + 1 ≡ n = omega (arith, number, fewer, count) in
    let on = put_on l.seats.items c.put.new.values.items (record { session = c.session-session.result; work = c.take_last-work.result })
    (λ k s. s.session.worker.number + k + 1 ≡ n) c.put.ensures.items l.invariant.seated at in
    let more = on.1 in
    let works = one_longer c.take_last-work.new.values.items l.works.items c.take_last-work.result c.take_last-work.ensures.items in
    let as_many = l.invariant.works in
    let room = l.invariant.room in
    let wider = c.put.ensures.capacity in
    let tickets_room = l.invariant.tickets_room in
    let tickets_wider = c.take_last.ensures.capacity in
    let works_room = l.invariant.works_room in
    let works_wider = c.take_last-work.ensures.capacity in
    record {
      numbered = off.0;
      works = omega (arith, works, fewer, as_many);
      count = omega (arith, more, fewer, count);
      seated = on.0;
      room = omega (arith, room, wider);
      tickets_room = omega (arith, tickets_room, tickets_wider);
      works_room = omega (arith, works_room, works_wider);
    }
