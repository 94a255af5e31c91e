use Rattle.std.proofs.Common.{◌≤◌, map, length, not, sym, ap, ◌∙◌, arith}
use Rattle.std.proofs.lemmas.List.{length-map}
use Rattle.unit_port.specs.Unit.{ModelUnit}
use Rattle.scan_recovery.specs.Units.{image_of}
use Rattle.scan_recovery.proofs.LineStates.{empty_more, is_empty_line, is_used_line}
use Rattle.scan_recovery.proofs.reading.is_used.Goals as goal

pub returns-then-not-is_empty : goal.returns-then-not-is_empty
returns-then-not-is_empty g c =
    sym (ap not (is_used_line (image_of c.args.shape.now (map g.U.Unit.model c.args.units.now)) c.args.line c.loop-unit.unit c.state_of.result
    c.state_of.ensures (sym c.is_empty.ensures ∙ c.if-not-is_empty.true)))

pub loop-unit-preserved : goal.loop-unit-preserved
loop-unit-preserved g c =
    empty_more (image_of c.args.shape.now (map g.U.Unit.model c.args.units.now)) c.args.line c.loop-unit.unit c.state_of.result c.state_of.ensures
    (sym c.is_empty.ensures ∙ c.if-not-is_empty.false) c.loop-unit.invariant

pub returns : goal.returns
returns g c =
    let us = map g.U.Unit.model c.args.units.now in
    let i = image_of c.args.shape.now us in
    let few : length i.units ≤ c.loop-unit.unit =
    (let long = length-map us (λ (u : ModelUnit). u.media) in let count = c.requires.fit.count in let end = c.units-unit-end.ensures in omega arith) in
    sym (ap not (is_empty_line i c.args.line c.loop-unit.unit few c.loop-unit.invariant))
