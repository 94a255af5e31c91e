use Rattle.std.proofs.Common.{◌≡◌, ◌+◌, length, ap, ◌∙◌, arith}
use Rattle.block_target.specs.Sessions.{SessionView}
use Rattle.block_target.proofs.FirstArms.{one_longer}
use Rattle.target_crew.proofs.Places.{put_on, taken_off}
use Rattle.target_crew.proofs.crew.end_all.Goals as goal

pub loop-seats-preserved : goal.loop-seats-preserved
loop-seats-preserved g c =
    let l = c.loop-seats in
    let rest = c.take_last-session.new.values.items in
    let n = length c.args.seats.items in
    let off = taken_off l.seats.items rest c.take_last-session.result (λ k s. s.session.worker.number + k + 1 ≡ n) c.take_last-session.ensures.items
    l.invariant.seated in
    let same = ap (λ (t : SessionView). t.worker.number) c.end.ensures in
    let here = off.1 in
    let fewer = off.2 in
    let count = l.invariant.count in
    let at : c.take_last-session.result.session.worker.number ≡ length l.tickets.items = omega (arith, here, fewer, count) in
    let on = put_on l.tickets.items c.put.new.values.items c.end.result (λ k t. t.worker.number ≡ k) c.put.ensures.items l.invariant.numbered (same ∙ at) in
    let more = on.1 in
    let works = one_longer l.works.items c.put-in-loop-seats.new.values.items c.take_last-session.result.work c.put-in-loop-seats.ensures.items in
    let as_many = l.invariant.works in
    let room = l.invariant.tickets_room in
    let works_room = l.invariant.works_room in
    let wider = c.put.ensures.capacity in
    let works_wider = c.put-in-loop-seats.ensures.capacity in
    record {
      numbered = on.0;
      works = omega (arith, works, more, as_many);
      count = omega (arith, more, fewer, count);
      seated = off.0;
      tickets_room = omega (arith, room, wider);
      works_room = omega (arith, works_room, works_wider);
    }
