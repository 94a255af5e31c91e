use Rattle.std.proofs.Common.{List, length, map, sym, subst, ap, ◌∙◌}
use Rattle.pblk_model.specs.declared.shape.Shape.{Shape}
use Rattle.ocssd_drive.specs.Drive.{DriveView, fitting_fuse, shape_of}
use Rattle.ocssd_drive.specs.Units.{WornUnit}
use Rattle.block_target.specs.Opened.{CanOpen}
use Rattle.target_crew.proofs.ArmedUnits.{can_open}
use Rattle.target_crew.proofs.units.armed.Goals as goal

pub returns-clause-opens : goal.returns-clause-opens
returns-clause-opens c =
    let armed = c.in_ok-arm.ensures.armed in
    let opens = can_open c.args.drive c.arm.new.self c.args.plans.now (fitting_fuse (length c.args.drive.units) c.args.fuse) armed.0 c.in_ok-arm.ensures.whole
    armed.2 in
    subst (λ (s : Shape). CanOpen s (map (λ (u : WornUnit). u.unit) c.units_in.result.items)) (sym c.shape-shape.ensures.shape)
    (subst (λ (us : List WornUnit). CanOpen (shape_of c.arm.new.self) (map (λ (u : WornUnit). u.unit) us)) (sym c.units_in.ensures) opens)

pub returns-clause-shape : goal.returns-clause-shape
returns-clause-shape c = c.shape-shape.ensures.shape ∙ c.in_ok-arm.ensures.numbers

pub returns-clause-units : goal.returns-clause-units
returns-clause-units c =
    let armed = c.in_ok-arm.ensures.armed in
    (armed.0, c.units_in.ensures ∙ ap (λ (d : DriveView). d.units) armed.2)
