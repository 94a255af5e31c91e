use Rattle.std.proofs.Common.{◌<◌, ◌≤◌, [], map, length, get_or, arith}
use Rattle.std.proofs.lemmas.List.{length-map}
use Rattle.std.proofs.lemmas.Option.{slice_get-get_or}
use Rattle.unit_port.specs.Unit.{ModelUnit}
use Rattle.scan_recovery.specs.Units.{image_of}
use Rattle.scan_recovery.proofs.ScanSteps.{units_more, units_done}
use Rattle.scan_recovery.proofs.reading.chunk_states.Goals as goal

pub loop-unit-preserved : goal.loop-unit-preserved
loop-unit-preserved g c =
    let us = map g.U.Unit.model c.args.units.now in
    let all = (image_of c.args.shape.now us).units in
    let inside : c.loop-unit.unit < length all =
    (let long = length-map us (λ (u : ModelUnit). u.media) in let count = c.requires.fit.count in let end =
    c.units-unit-end.ensures in omega (arith, c.loop-unit-test.true)) in
    units_more all c.loop-unit.unit c.loop-unit.states.items c.unit_states.new.states.items inside
    (c.in_ok-unit_states.ensures (get_or all c.loop-unit.unit []) (slice_get-get_or all c.loop-unit.unit [] inside)) c.loop-unit.invariant

pub returns : goal.returns
returns g c =
    let us = map g.U.Unit.model c.args.units.now in
    let all = (image_of c.args.shape.now us).units in
    let past : length all ≤ c.loop-unit.unit =
    (let long = length-map us (λ (u : ModelUnit). u.media) in let count = c.requires.fit.count in let end =
    c.units-unit-end.ensures in omega (arith, c.loop-unit-test.false)) in
    units_done all c.loop-unit.unit c.loop-unit.states.items past c.loop-unit.invariant
