use Rattle.std.proofs.Common.{◌≡◌, ◌≤◌, ◌*◌, ◌+◌, ◌^◌, ◌<◌, length, sym, subst, ap, ◌∙◌, arith}
use Rattle.pblk_model.specs.Shape.{units}
use Rattle.pblk_layout.proofs.UnitSets.{is_found, no_units, with_unit, without_unit, units_low, found_all, found_here, place_inside}
use Rattle.pblk_layout.proofs.line_units.found_units.Goals as goal
use Rattle.pblk_layout.proofs.line_units.found_units.Goals.{then-is_online, else-is_online}

pub bounds-chunks-unit : goal.bounds-chunks-unit
bounds-chunks-unit c =
    let count : length c.as_slice-chunks.result.now ≡ units c.args.shape.now * c.args.shape.now.chunks = ap length c.as_slice-chunks.ensures
    ∙ c.requires.chunks in
    let inside : c.loop-unit.unit < units c.args.shape.now = omega (arith, c.loop-unit-test.true, c.units-unit-end.ensures) in
    subst (λ n. c.loop-unit.unit * c.args.shape.now.chunks + c.args.line < n) (sym count)
    (place_inside c.loop-unit.unit (units c.args.shape.now) c.args.shape.now.chunks c.args.line inside c.requires.line)

pub loop-unit-init : goal.loop-unit-init
loop-unit-init c = rw c.none-online.ensures (no_units (is_found c.args.shape.now c.args.found.now c.args.line))

pub loop-unit-preserved : goal.loop-unit-preserved
loop-unit-preserved c =
    let count : length c.as_slice-chunks.result.now ≡ units c.args.shape.now * c.args.shape.now.chunks = ap length c.as_slice-chunks.ensures
    ∙ c.requires.chunks in
    let inside : c.loop-unit.unit < units c.args.shape.now = omega (arith, c.loop-unit-test.true, c.units-unit-end.ensures) in
    let there = subst (λ n. c.loop-unit.unit * c.args.shape.now.chunks + c.args.line < n) (sym count)
    (place_inside c.loop-unit.unit (units c.args.shape.now) c.args.shape.now.chunks c.args.line inside c.requires.line) in
    let here = found_here c.args.shape.now c.args.found.now c.args.line c.loop-unit.unit c.as_slice-chunks.result.now _ c.as_slice-chunks.ensures there in
    let p = is_found c.args.shape.now c.args.found.now c.args.line in
    elim c.if-is_online.branch [
      | then-is_online w ↦ rw w.online-is
          (with_unit p c.loop-unit.unit c.loop-unit.online w.add.new.self
          (here ∙ sym c.is_online.ensures ∙ w.if-is_online.true) w.add.ensures c.loop-unit.invariant)
      | else-is_online w ↦ rw w.online-is
          (without_unit p c.loop-unit.unit c.loop-unit.online (here ∙ sym c.is_online.ensures ∙ w.if-is_online.false) c.loop-unit.invariant)
    ]

pub returns-clause-units : goal.returns-clause-units
returns-clause-units c =
    let last : c.loop-unit.unit ≡ units c.args.shape.now = omega (arith, c.loop-unit.auto.unit-end, c.loop-unit-test.false, c.units-unit-end.ensures) in
    let few : c.loop-unit.unit ≤ 64 = omega (arith, last, c.requires.accepted.drive.few_units) in
    found_all c.args.shape.now c.args.found.now c.args.line c.loop-unit.unit c.loop-unit.online last few c.loop-unit.invariant

pub returns-clause-below : goal.returns-clause-below
returns-clause-below c =
    let last : c.loop-unit.unit ≡ units c.args.shape.now = omega (arith, c.loop-unit.auto.unit-end, c.loop-unit-test.false, c.units-unit-end.ensures) in
    subst (λ n. c.loop-unit.online < 2 ^ n) last
    (units_low (is_found c.args.shape.now c.args.found.now c.args.line) c.loop-unit.unit c.loop-unit.online c.loop-unit.invariant)
