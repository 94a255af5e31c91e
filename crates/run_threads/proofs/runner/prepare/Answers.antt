use Rattle.std.proofs.Common.{◌≡◌, length, map, ap, sym, ◌∙◌, arith}
use Rattle.std.proofs.lemmas.List.{length-map}
use Rattle.run_threads.proofs.Scripts.{as_many_desks}
use Rattle.run_threads.proofs.Whole.{can_all_run, ports_mapped}
use Rattle.run_threads.proofs.runner.prepare.Goals as goal

pub seat_all-requires-clause-count : goal.seat_all-requires-clause-count
seat_all-requires-clause-count g c =
    let stage = c.in-Ok.stage in
    as_many_desks stage.board c.args.script.now stage.desks.items c.in-Ok.ensures.desks ∙ sym c.requires.ports

pub returns-clause-ports : goal.returns-clause-ports
returns-clause-ports g c =
    sym (ports_mapped g.P.Port.model c.seat_all.new.threads.items) ∙ ap (map g.P.Port.model) c.seat_all.ensures.ports

pub returns-clause-prepared : goal.returns-clause-prepared
returns-clause-prepared g c =
    let stage = c.in-Ok.stage in
    let ready = c.in-Ok.ensures in
    let threads = c.seat_all.new.threads.items in
    let many : length threads ≡ length c.args.script.now =
    sym (length-map threads (λ t. t.port)) ∙ ap length c.seat_all.ensures.ports ∙ c.requires.ports in
    record {
      count = many;
      ready = can_all_run g.P.Port.model stage.board c.args.script.now stage.desks.items c.args.ports.items threads ready.desks c.seat_all.ensures.desks
          c.seat_all.ensures.ports c.requires.accepted;
      of = ready.of;
      words = ready.words;
      rows = ready.rows;
      rows_room = omega (arith, many, ready.room);
      ports = c.seat_all.ensures.left;
      ports_room = omega (arith, many, c.requires.ports, c.seat_all.ensures.capacity, c.args.ports.ok);
    }
