use Rattle.std.proofs.Common.{sym}
use Rattle.std.specs.List.{filter_map}
use Rattle.stripe_placer.specs.Placing.{Program, stopped_in, next_in, is_ready}
use Rattle.plain_placer.proofs.Steps.{found_first, found_then}
use Rattle.plain_placer.proofs.placer.next_offer.Goals as goal

pub returns-in-Some : goal.returns-in-Some
returns-in-Some c =
    let stopped = filter_map stopped_in c.args.rows.now in
    let nexts = filter_map (next_in c.args.layout.now c.args.entries.now) c.args.lines.now in
    found_first (λ (of : Program). is_ready c.args.rows.now c.args.busy of.unit) stopped nexts c.in-Some.of (sym c.in-Some.ensures)

pub returns-in-None : goal.returns-in-None
returns-in-None c =
    let stopped = filter_map stopped_in c.args.rows.now in
    let nexts = filter_map (next_in c.args.layout.now c.args.entries.now) c.args.lines.now in
    found_then (λ (of : Program). is_ready c.args.rows.now c.args.busy of.unit) stopped nexts c.next_new.result (sym c.in-None.ensures) c.next_new.ensures
