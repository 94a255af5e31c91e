use Rattle.std.proofs.Common.{◌≡◌, ◌≤◌, ◌<◌, ◌^◌, map, length, sym, ap, subst, ◌∙◌, arith}
use Rattle.std.specs.List.{filter, range_with_len}
use Rattle.std.proofs.lemmas.List.{length-map}
use Rattle.pblk_model.specs.Shape.{units}
use Rattle.pblk_layout.proofs.UnitSets.{no_units, with_unit, without_unit, all_units, units_low}
use Rattle.unit_port.specs.Unit.{ModelUnit}
use Rattle.scan_recovery.specs.Units.{image_of}
use Rattle.scan_recovery.proofs.LineStates.{on_is}
use Rattle.scan_recovery.proofs.reading.online_units.Goals as goal
use Rattle.scan_recovery.proofs.reading.online_units.Goals.{then-is_online, else-is_online}
use Rattle.pblk_laws.proofs.LineUnits.{is_online_at, line_units_range}

pub add-requires : goal.add-requires
add-requires g c = omega (arith, c.loop-unit-test.true, c.units-unit-end.ensures, c.requires.accepted.drive.few_units)

pub loop-unit-init : goal.loop-unit-init
loop-unit-init g c = rw c.none-online.ensures (no_units (is_online_at (image_of c.args.shape.now (map g.U.Unit.model c.args.units.now)) c.args.line))

pub loop-unit-preserved : goal.loop-unit-preserved
loop-unit-preserved g c =
    let i = image_of c.args.shape.now (map g.U.Unit.model c.args.units.now) in
    let here = on_is i c.args.line c.loop-unit.unit c.state_of.result c.state_of.ensures ∙ sym c.is_online.ensures in
    elim c.if-is_online.branch [
      | then-is_online w ↦ rw w.online-is
          (with_unit (is_online_at i c.args.line) c.loop-unit.unit c.loop-unit.online w.add.new.self
          (here ∙ w.if-is_online.true) w.add.ensures c.loop-unit.invariant)
      | else-is_online w ↦ rw w.online-is
          (without_unit (is_online_at i c.args.line) c.loop-unit.unit c.loop-unit.online (here ∙ w.if-is_online.false) c.loop-unit.invariant)
    ]

pub returns-clause-units : goal.returns-clause-units
returns-clause-units g c =
    let us = map g.U.Unit.model c.args.units.now in
    let i = image_of c.args.shape.now us in
    let end : c.loop-unit.unit ≡ units c.args.shape.now = omega (arith, c.loop-unit.auto.unit-end, c.loop-unit-test.false, c.units-unit-end.ensures) in
    let last : c.loop-unit.unit ≡ length i.units = omega (arith, end, c.requires.fit.count, length-map us (λ (u : ModelUnit). u.media)) in
    let few : c.loop-unit.unit ≤ 64 = omega (arith, end, c.requires.accepted.drive.few_units) in
    all_units (is_online_at i c.args.line) c.loop-unit.unit c.loop-unit.online few c.loop-unit.invariant
    ∙ ap (λ n. filter (is_online_at i c.args.line) (range_with_len 0 n)) last ∙ sym (line_units_range i c.args.line)

pub returns-clause-below : goal.returns-clause-below
returns-clause-below g c =
    let i = image_of c.args.shape.now (map g.U.Unit.model c.args.units.now) in
    let end : c.loop-unit.unit ≡ units c.args.shape.now = omega (arith, c.loop-unit.auto.unit-end, c.loop-unit-test.false, c.units-unit-end.ensures) in
    subst (λ n. c.loop-unit.online < 2 ^ n) end (units_low (is_online_at i c.args.line) c.loop-unit.unit c.loop-unit.online c.loop-unit.invariant)
