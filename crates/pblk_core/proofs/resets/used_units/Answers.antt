use Rattle.std.proofs.Common.{◌≡◌, ◌≤◌, ◌+◌, ◌*◌, ◌<◌, length, ℕ, Bool, sym, subst, ap, ◌∙◌, arith}
use Rattle.std.specs.List.{slice_get}
use Rattle.std.proofs.lemmas.Option.{slice_get-get_or}
use Rattle.pblk_model.specs.Shape.{units}
use Rattle.pblk_layout.proofs.UnitSets.{all_units, place_inside, with_unit, without_unit}
use Rattle.pblk_core.specs.Resets.{is_used_at, used_below}
use Rattle.pblk_core.proofs.resets.used_units.Goals.{then-is_used, else-is_used}
use Rattle.pblk_core.proofs.resets.used_units.Goals as goal

pub bounds-states-unit : goal.bounds-states-unit
bounds-states-unit c =
    subst (λ n. c.loop-unit.unit * c.args.shape.now.chunks + c.args.line < n) (sym c.requires.chunks)
    (place_inside c.loop-unit.unit (units c.args.shape.now) c.args.shape.now.chunks c.args.line
    (subst (λ n. c.loop-unit.unit < n) c.units-unit-end.ensures c.loop-unit-test.true) c.requires.line)

pub loop-unit-preserved : goal.loop-unit-preserved
loop-unit-preserved c =
    let inside : c.loop-unit.unit * c.args.shape.now.chunks + c.args.line < length c.args.states.now =
    subst (λ n. c.loop-unit.unit * c.args.shape.now.chunks + c.args.line < n) (sym c.requires.chunks)
    (place_inside c.loop-unit.unit (units c.args.shape.now) c.args.shape.now.chunks c.args.line
    (subst (λ n. c.loop-unit.unit < n) c.units-unit-end.ensures c.loop-unit-test.true) c.requires.line) in
    let p : ℕ → Bool = λ unit. is_used_at (slice_get c.args.states.now (unit * c.args.shape.now.chunks + c.args.line)) in
    elim c.if-is_used.branch [
      | then-is_used w ↦ rw w.used-is
          (with_unit p c.loop-unit.unit c.loop-unit.used w.add.new.self
          (ap is_used_at (slice_get-get_or c.args.states.now (c.loop-unit.unit * c.args.shape.now.chunks + c.args.line) _ inside) ∙ sym c.is_used.ensures
          ∙ w.if-is_used.true) w.add.ensures c.loop-unit.invariant)
      | else-is_used w ↦ rw w.used-is
          (without_unit p c.loop-unit.unit c.loop-unit.used
          (ap is_used_at (slice_get-get_or c.args.states.now (c.loop-unit.unit * c.args.shape.now.chunks + c.args.line) _ inside) ∙ sym c.is_used.ensures
          ∙ w.if-is_used.false) c.loop-unit.invariant)
    ]

pub returns : goal.returns
returns c =
    let last : c.loop-unit.unit ≡ units c.args.shape.now = omega (arith, c.loop-unit.auto.unit-end, c.loop-unit-test.false, c.units-unit-end.ensures) in
    let few : c.loop-unit.unit ≤ 64 = omega (arith, last, c.requires.accepted.drive.few_units) in
    all_units (λ unit. is_used_at (slice_get c.args.states.now (unit * c.args.shape.now.chunks + c.args.line))) c.loop-unit.unit c.loop-unit.used few
    c.loop-unit.invariant
    ∙ ap (used_below c.args.shape.now c.args.states.now c.args.line) last
