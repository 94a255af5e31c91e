use Rattle.std.proofs.Common.{◌<◌, Ok, map, length, sym, ap, ◌∙◌, arith}
use Rattle.unit_port.specs.Did.{failed_or_stopped}
use Rattle.pblk_model.specs.declared.shape.Shape.{Shape}
use Rattle.scan_recovery.proofs.FetchSteps.{fetch_taken, good_few, lost_few, told_lost, told_sector}
use Rattle.unit_port.proofs.Units.{model_there}
use Rattle.scan_recovery.proofs.fetching.fetch_into.Goals as goal

pub fetch_at-requires-clause-sector : goal.fetch_at-requires-clause-sector
fetch_at-requires-clause-sector g c = λ k u h. ap (λ (x : Shape). x.sector) (c.requires.fit.each k u h).shape ∙ sym c.requires.size

pub fetch_at-requires-clause-taken : goal.fetch_at-requires-clause-taken
fetch_at-requires-clause-taken g c =
    fetch_taken c.args.shape.now (map g.U.Unit.model c.args.units.now) c.args.chunk c.args.unit c.args.block c.requires.fit c.requires.there

pub returns-in-Ok-Sector-clause-fetched : goal.returns-in-Ok-Sector-clause-fetched
returns-in-Ok-Sector-clause-fetched g c =
    let d = c.fetch_at.ensures.did in
    good_few c.args.shape.now (map g.U.Unit.model c.args.units.now)
    (map g.U.Unit.model c.fetch_at.new.units) c.args.chunk c.args.unit c.args.block d.0 c.requires.there d.1
    (ap failed_or_stopped (told_sector c.args.out.now c.fetch_at.new.out c.fetch_at.result _ d.0.event.outcome
    (c.in-Ok-Sector.is ∙ ap Ok c.in-Ok-Sector.field-0-is) d.2))

pub returns-in-Err-clause-fetched : goal.returns-in-Err-clause-fetched
returns-in-Err-clause-fetched g c =
    let d = c.fetch_at.ensures.did in
    let inside : c.args.unit < length c.fetch_at.new.units = omega arith in
    lost_few c.args.shape.now (map g.U.Unit.model c.args.units.now)
    (map g.U.Unit.model c.fetch_at.new.units) c.args.chunk c.args.unit c.args.block c.events.result d.0 _ c.requires.there d.1
    (told_lost c.args.out.now c.fetch_at.new.out c.fetch_at.result c.in-Err.field-0 d.0.event.outcome c.in-Err.is d.2)
    (model_there g.U.Unit.model c.fetch_at.new.units c.args.unit c.index-units-unit.result inside) c.events.ensures.count
