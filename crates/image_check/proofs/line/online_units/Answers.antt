use Rattle.std.proofs.Common.{◌≡◌, ◌<◌, ◌≤◌, ◌^◌, length, sym, ap, subst, ◌∙◌, arith}
use Rattle.std.specs.List.{filter, range_with_len}
use Rattle.pblk_model.specs.declared.shape.Shape.{Shape}
use Rattle.pblk_model.specs.Shape.{units}
use Rattle.pblk_model.specs.Image.{is_online_in}
use Rattle.pblk_layout.proofs.UnitSets.{no_units, with_unit, without_unit, all_units, units_low}
use Rattle.image_check.proofs.DriveImage.{chunk_there, image, units_count}
use Rattle.image_check.proofs.OnlineUnits.{on_is}
use Rattle.image_check.proofs.line.online_units.Goals as goal
use Rattle.image_check.proofs.line.online_units.Goals.{then-is_online, else-is_online}
use Rattle.pblk_laws.proofs.LineUnits.{is_online_at, line_units_range}

pub loop-unit-init : goal.loop-unit-init
loop-unit-init c = rw c.none-online.ensures (no_units (is_online_at (image c.args.drive.now) c.args.line))

pub add-requires : goal.add-requires
add-requires c =
    let few : units c.args.shape.now ≤ 64 = subst (λ (s : Shape). units s ≤ 64) (sym c.requires.shape) c.requires.whole.accepted.drive.few_units in
    omega (arith, few, c.loop-unit-test.true, c.loop-unit.auto.unit-end, c.units-unit-end.ensures)

pub loop-unit-preserved : goal.loop-unit-preserved
loop-unit-preserved c =
    let i = image c.args.drive.now in
    let there = chunk_there c.args.drive.now c.args.line c.loop-unit.unit c.unit.result.now c.chunk.result.now.chunk c.unit.ensures.unit
    c.unit.ensures.fits c.chunk.ensures.chunk in
    let here = on_is i c.args.line c.loop-unit.unit c.chunk.result.now.chunk there ∙ ap is_online_in (sym c.state-state.ensures.state)
    ∙ sym c.is_online.ensures in
    elim c.if-is_online.branch [
      | then-is_online w ↦ rw w.online-is
          (with_unit (is_online_at i c.args.line) c.loop-unit.unit c.loop-unit.online w.add.new.self
          (here ∙ w.if-is_online.true) w.add.ensures c.loop-unit.invariant)
      | else-is_online w ↦ rw w.online-is
          (without_unit (is_online_at i c.args.line) c.loop-unit.unit c.loop-unit.online (here ∙ w.if-is_online.false) c.loop-unit.invariant)
    ]

pub returns : goal.returns
returns c =
    let i = image c.args.drive.now in
    let end : c.loop-unit.unit ≡ units c.args.shape.now = omega (arith, c.loop-unit.auto.unit-end, c.loop-unit-test.false, c.units-unit-end.ensures) in
    let end' : c.loop-unit.unit ≡ units i.shape = end ∙ ap units c.requires.shape in
    let last : c.loop-unit.unit ≡ length i.units = end' ∙ sym (units_count c.args.drive.now ∙ c.requires.whole.count) in
    let few : c.loop-unit.unit ≤ 64 = subst (λ n. n ≤ 64) (sym end') c.requires.whole.accepted.drive.few_units in
    record {
      are = all_units (is_online_at i c.args.line) c.loop-unit.unit c.loop-unit.online few c.loop-unit.invariant
          ∙ ap (λ n. filter (is_online_at i c.args.line) (range_with_len 0 n)) last ∙ sym (line_units_range i c.args.line);
      below = subst (λ n. c.loop-unit.online < 2 ^ n) end' (units_low (is_online_at i c.args.line) c.loop-unit.unit c.loop-unit.online c.loop-unit.invariant);
    }
