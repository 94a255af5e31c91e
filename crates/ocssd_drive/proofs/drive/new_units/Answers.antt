use Rattle.std.proofs.Common.{◌≡◌, ◌∙◌, ap, replicate, arith}
use Rattle.ocssd_drive.specs.Units.{new_unit}
use Rattle.ocssd_drive.proofs.UnitChunks.{one_more_same}
use Rattle.ocssd_drive.proofs.drive.new_units.Goals as goal

pub new-requires : goal.new-requires
new-requires c = c.requires

pub loop-unit-init : goal.loop-unit-init
loop-unit-init c = c.in_ok-made.ensures.items

pub loop-unit-preserved : goal.loop-unit-preserved
loop-unit-preserved c = one_more_same c.loop-unit.made.items c.push.new.self.items c.loop-unit._unit c.in_ok-new.field-0 (new_unit c.args.shape.now) c.loop-unit.invariant c.in_ok-new.ensures.new c.in_ok-push.ensures.items

pub returns : goal.returns
returns c =
    let all : c.loop-unit._unit ≡ c.units-count.result = omega arith in
    c.loop-unit.invariant ∙ ap (λ n. replicate n (new_unit c.args.shape.now)) (all ∙ c.units-count.ensures)
