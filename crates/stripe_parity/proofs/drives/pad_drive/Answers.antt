use Rattle.std.proofs.Common.{◌≡◌, map, sym, ap, subst, ◌∙◌}
use Rattle.std.specs.Prelude.{OnOk}
use Rattle.std.specs.Vec.{with_items}
use Rattle.pblk_model.specs.Accepted.{IsAccepted}
use Rattle.pblk_model.specs.Contents.{contents, end}
use Rattle.pblk_model.specs.Image.{Image}
use Rattle.pblk_model.specs.Sealed.{IsSealed}
use Rattle.unit_port.specs.Commands.{AreUnarmed}
use Rattle.world_laws.specs.Finding.{NoneOpen}
use Rattle.ocssd_drive.specs.Drive.{DriveView, shape_of, with_units}
use Rattle.ocssd_drive.specs.DriveFields.{drive_view}
use Rattle.ocssd_drive.specs.Units.{WornUnit}
use Rattle.scan_recovery.specs.Units.{image_of}
use Rattle.scan_recovery.proofs.UnitsLemmas.{drive_fits}
use Rattle.stripe_parity.specs.Rebuilding.{drive_image}
use Rattle.stripe_parity.proofs.Calm.{padded_unarmed, padded_wanting}
use Rattle.stripe_parity.proofs.Refused.{image_from}
use Rattle.stripe_parity.proofs.Wholes.{come_back, wear_again, whole_again}
use Rattle.stripe_parity.proofs.drives.pad_drive.Goals as goal
use Rattle.stripe_parity.proofs.drives.pad_drive.Goals.{After-pad}

-- the units that were lent are the drive's
lent_units : (c : After-pad) → c.deref_mut.result.now ≡ c.args.drive.now.units
lent_units c = c.deref_mut.ensures.value ∙ ap (λ (d : DriveView). d.units) c.drive.view_is

-- and come back as the call left them
back : (c : After-pad) → (with_items c.drive.inside.units c.pad.new.units).items ≡ c.pad.new.units
back c = come_back c.drive.inside.units c.deref_mut.result.now c.pad.new.units c.deref_mut.ensures.value c.pad.ensures.kept

-- the drive's chunks before and after
old_is : (c : After-pad) → image_of c.shape-shape.result (map (λ (u : WornUnit). u.unit) c.deref_mut.result.now) ≡ drive_image c.args.drive.now
old_is c = image_from c.shape-shape.result c.args.drive.now c.deref_mut.result.now c.shape-shape.ensures.shape (lent_units c)

new_is : (c : After-pad) → image_of c.shape-shape.result (map (λ (u : WornUnit). u.unit) c.pad.new.units) ≡ drive_image
    (with_units (with_items c.drive.inside.units c.pad.new.units).items (drive_view c.drive.inside))
new_is c = image_from c.shape-shape.result (with_units (with_items c.drive.inside.units c.pad.new.units).items (drive_view c.drive.inside)) c.pad.new.units
    (c.shape-shape.ensures.shape ∙ sym (ap shape_of c.drive.view_is)) (sym (back c))

pub pad-requires-clause-accepted : goal.pad-requires-clause-accepted
pad-requires-clause-accepted c = subst IsAccepted (sym c.shape-shape.ensures.shape) c.shape-shape.ensures.whole.accepted

pub pad-requires-clause-fit : goal.pad-requires-clause-fit
pad-requires-clause-fit c =
    rw c.deref_mut.ensures.value (drive_fits c.args.drive.now
    (drive_view c.drive.inside) c.shape-shape.result c.drive.view_is c.shape-shape.ensures.shape c.shape-shape.ensures.whole)

pub invariant_of-drive : goal.invariant_of-drive
invariant_of-drive c =
    whole_again c.drive.inside.units c.deref_mut.result.now c.pad.new.units c.deref_mut.ensures.value c.pad.ensures.kept
    (drive_view c.drive.inside) c.deref_mut.ensures.value c.drive.invariant c.pad.ensures.wear

pub returns-clause-closed : goal.returns-clause-closed
returns-clause-closed c = subst (λ (i : Image). OnOk c.pad.result (NoneOpen i)) (new_is (goal.at.returns-clause-closed c).After-pad) c.pad.ensures.closed

pub returns-clause-sealed : goal.returns-clause-sealed
returns-clause-sealed c = λ was.
    let at = (goal.at.returns-clause-sealed c).After-pad in
    subst IsSealed (new_is at) (c.pad.ensures.sealed (subst IsSealed (sym (old_is at)) was))

pub returns-clause-contents : goal.returns-clause-contents
returns-clause-contents c = λ was.
    let at = (goal.at.returns-clause-contents c).After-pad in
    ap contents (sym (new_is at)) ∙ c.pad.ensures.contents (subst IsSealed (sym (old_is at)) was) ∙ ap contents (old_is at)

pub returns-clause-end : goal.returns-clause-end
returns-clause-end c = λ was.
    let at = (goal.at.returns-clause-end c).After-pad in
    ap end (sym (new_is at)) ∙ c.pad.ensures.end (subst IsSealed (sym (old_is at)) was) ∙ ap end (old_is at)

pub returns-clause-wear : goal.returns-clause-wear
returns-clause-wear c =
    wear_again c.drive.inside.units c.deref_mut.result.now c.pad.new.units c.deref_mut.ensures.value c.pad.ensures.kept
    c.args.drive.now (lent_units (goal.at.returns-clause-wear c).After-pad) c.pad.ensures.wear

pub returns-clause-numbers : goal.returns-clause-numbers
returns-clause-numbers c =
    let new = (with_items c.drive.inside.units c.pad.new.units).items in
    ap (λ (v : DriveView). with_units new v) c.drive.view_is

pub returns-clause-whole : goal.returns-clause-whole
returns-clause-whole c = invariant_of-drive c

-- the units before
units_before : (c : After-pad) → map (λ (u : WornUnit). u.unit) c.deref_mut.result.now ≡ map (λ (u : WornUnit). u.unit) c.args.drive.now.units
units_before c = ap (map (λ (u : WornUnit). u.unit)) (lent_units c)

pub returns-clause-wanting : goal.returns-clause-wanting
returns-clause-wanting c = λ calm.
    padded_wanting c.shape-shape.result _ _ c.pad.result c.pad.ensures.padded
    (subst AreUnarmed (sym (units_before (goal.at.returns-clause-wanting c).After-pad)) calm)

pub returns-clause-unarmed : goal.returns-clause-unarmed
returns-clause-unarmed c = λ calm.
    let at = (goal.at.returns-clause-unarmed c).After-pad in
    rw (back at) (padded_unarmed c.shape-shape.result _ _ c.pad.result c.pad.ensures.padded c.pad.ensures.memory
    (subst AreUnarmed (sym (units_before at)) calm))
