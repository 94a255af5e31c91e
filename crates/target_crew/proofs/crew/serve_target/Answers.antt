use Rattle.std.proofs.Common.{length, sym, ◌∙◌, arith}
use Rattle.block_target.proofs.AllBack.{all_back}
use Rattle.target_crew.proofs.FirstTickets.{first_count, first_numbered}
use Rattle.target_crew.proofs.crew.serve_target.Goals as goal

pub close-requires : goal.close-requires
close-requires g c = record {
  all = all_back g.M.Mount.past g.M.Mount.key (length c.args.works.items) c.args.target c.args.tickets.items c.args.workers.items c.requires.some
      (omega (arith, c.requires.few)) c.requires.target
      (first_count g.M.Mount.past g.M.Mount.key (length c.args.works.items) c.args.tickets.items c.requires.tickets)
      (first_numbered g.M.Mount.past g.M.Mount.key (length c.args.works.items) c.args.tickets.items c.requires.tickets) c.requires.workers;
}

pub seat_all-requires-clause-numbered : goal.seat_all-requires-clause-numbered
seat_all-requires-clause-numbered g c =
    first_numbered g.M.Mount.past g.M.Mount.key (length c.args.works.items) c.args.tickets.items c.requires.tickets

pub seat_all-requires-clause-works : goal.seat_all-requires-clause-works
seat_all-requires-clause-works g c =
    sym (first_count g.M.Mount.past g.M.Mount.key (length c.args.works.items) c.args.tickets.items c.requires.tickets)

pub seat_all-requires-clause-room : goal.seat_all-requires-clause-room
seat_all-requires-clause-room g c =
    let count = first_count g.M.Mount.past g.M.Mount.key (length c.args.works.items) c.args.tickets.items c.requires.tickets in
    let room = c.in-Ok.ensures.capacity in
    let many = c.len-count.ensures in
    omega (arith, count, room, many)

pub seat_all-requires-clause-works_room : goal.seat_all-requires-clause-works_room
seat_all-requires-clause-works_room g c =
    let count = first_count g.M.Mount.past g.M.Mount.key (length c.args.works.items) c.args.tickets.items c.requires.tickets in
    omega (arith, count, c.args.works.ok)

pub work_all-requires-clause-seated : goal.work_all-requires-clause-seated
work_all-requires-clause-seated g c = λ _ _ k s there.
    let at = c.seat_all.ensures.seated k s there in
    let count = first_count g.M.Mount.past g.M.Mount.key (length c.args.works.items) c.args.tickets.items c.requires.tickets in
    let many = c.len-count.ensures in
    omega (arith, at, count, many)

pub end_all-requires-clause-seated : goal.end_all-requires-clause-seated
end_all-requires-clause-seated g c = λ k s there.
    let at = c.work_all.ensures.seated k s there in
    let count = first_count g.M.Mount.past g.M.Mount.key (length c.args.works.items) c.args.tickets.items c.requires.tickets in
    let many = c.len-count.ensures in
    let worked = c.work_all.ensures.count in
    let seated = c.seat_all.ensures.count in
    omega (arith, at, count, many, worked, seated)

pub close-units-requires : goal.close-units-requires
close-units-requires g c = record {
  all = all_back g.M.Mount.past g.M.Mount.key (length c.args.works.items) c.args.target c.end_all.new.tickets.items c.args.workers.items c.requires.some
      (omega (arith, c.requires.few)) c.requires.target
      (c.end_all.ensures.count ∙ c.work_all.ensures.count ∙ c.seat_all.ensures.count
      ∙ first_count g.M.Mount.past g.M.Mount.key (length c.args.works.items) c.args.tickets.items c.requires.tickets)
      c.end_all.ensures.numbered c.requires.workers;
}
