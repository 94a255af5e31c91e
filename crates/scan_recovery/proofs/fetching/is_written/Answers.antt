use Rattle.std.proofs.Common.{◌<◌, map, Some, sym, ap, ◌∙◌, arith}
use Rattle.std.proofs.lemmas.Bool.{ltb-true, ltb-false}
use Rattle.pblk_model.specs.Chunk.{pointer}
use Rattle.unit_port.proofs.Units.{model_there}
use Rattle.scan_recovery.specs.Units.{image_of}
use Rattle.scan_recovery.proofs.PadLoops.{chunk_here}
use Rattle.scan_recovery.proofs.PadSteps.{chunk_of}
use Rattle.scan_recovery.proofs.FetchSteps.{readable_here, unwritten_here}
use Rattle.scan_recovery.proofs.fetching.is_written.Goals as goal

pub state-pointer-requires : goal.state-pointer-requires
state-pointer-requires g c =
    chunk_here c.args.shape.now (map g.U.Unit.model c.args.units.now) c.args.chunk c.args.unit (g.U.Unit.model c.index-units-unit.result) c.requires.fit
    (model_there g.U.Unit.model c.args.units.now c.args.unit c.index-units-unit.result c.requires.unit
    ∙ ap (λ x. Some (g.U.Unit.model x)) (sym c.index-units-unit.is)) c.requires.chunk

pub returns-clause-written : goal.returns-clause-written
returns-clause-written g c = λ is.
    let us = map g.U.Unit.model c.args.units.now in
    let h = c.state-pointer.ensures in
    let below = ltb-true c.args.block c.state-pointer.result.1 is in
    let p = h.3 in
    let there = chunk_of c.args.shape.now us c.args.chunk c.args.unit (g.U.Unit.model c.index-units-unit.result)
    (model_there g.U.Unit.model c.args.units.now c.args.unit c.index-units-unit.result c.requires.unit
    ∙ ap (λ x. Some (g.U.Unit.model x)) (sym c.index-units-unit.is)) ∙ h.1 in
    let within : c.args.block < pointer h.0 = omega arith in
    readable_here c.args.shape.now us c.args.chunk c.args.unit c.args.block h.0 c.requires.fit there (c.requires.closed h.0 there) within

pub returns-clause-unwritten : goal.returns-clause-unwritten
returns-clause-unwritten g c = λ is.
    let h = c.state-pointer.ensures in
    let past = ltb-false c.args.block c.state-pointer.result.1 is in
    let p = h.3 in
    unwritten_here (image_of c.args.shape.now (map g.U.Unit.model c.args.units.now)) c.args.chunk c.args.unit c.args.block h.0
    (chunk_of c.args.shape.now (map g.U.Unit.model c.args.units.now) c.args.chunk c.args.unit (g.U.Unit.model c.index-units-unit.result)
    (model_there g.U.Unit.model c.args.units.now c.args.unit c.index-units-unit.result c.requires.unit
    ∙ ap (λ x. Some (g.U.Unit.model x)) (sym c.index-units-unit.is)) ∙ h.1) (omega arith)
