use Rattle.std.proofs.Common.{◌∙◌, ap}
use Rattle.ocssd_drive.specs.Drive.{DriveView, stored}
use Rattle.ocssd_drive.specs.DriveFields.{drive_view}
use Rattle.ocssd_drive.specs.Drive.{shape_of}
use Rattle.ocssd_drive.specs.Units.{WornUnit}
use Rattle.ocssd_drive.proofs.Drives.{unit_found, unit_within, whole_again}
use Rattle.ocssd_drive.proofs.Restoring.{restored_by, stored-restored}
use Rattle.ocssd_drive.proofs.drive.Drive.restore.Goals as goal

pub restore-requires-clause-chunk : goal.restore-requires-clause-chunk
restore-requires-clause-chunk c =
    let at = unit_found c.self.inside c.args.self.now c.args.unit _ c.self.invariant c.self.view_is c.requires.unit c.index_mut-found.ensures.value in
    rw (at.fits.fits.count, at.fits.shape) (rw (← c.self.view_is) at c.requires.chunk)

pub restore-requires-clause-whole : goal.restore-requires-clause-whole
restore-requires-clause-whole c =
    let at = unit_found c.self.inside c.args.self.now c.args.unit _ c.self.invariant c.self.view_is c.requires.unit c.index_mut-found.ensures.value in
    rw (at.fits.shape) (rw (← c.self.view_is) at c.requires.whole)

pub restore-requires-clause-place : goal.restore-requires-clause-place
restore-requires-clause-place c =
    let at = unit_found c.self.inside c.args.self.now c.args.unit _ c.self.invariant c.self.view_is c.requires.unit c.index_mut-found.ensures.value in
    rw (at.fits.shape) (rw (← c.self.view_is) at c.requires.place)

pub restore-requires-clause-multiple : goal.restore-requires-clause-multiple
restore-requires-clause-multiple c =
    let at = unit_found c.self.inside c.args.self.now c.args.unit _ c.self.invariant c.self.view_is c.requires.unit c.index_mut-found.ensures.value in
    rw (at.fits.shape) (rw (← c.self.view_is) at c.requires.multiple)

pub returns-clause-restored : goal.returns-clause-restored
returns-clause-restored c =
    let at = unit_found c.self.inside c.args.self.now c.args.unit _ c.self.invariant c.self.view_is c.requires.unit c.index_mut-found.ensures.value in
    rw (← c.self.view_is) (restored_by
    (drive_view c.self.inside) c.args.unit c.args.chunk c.args.state c.args.bytes.now c.args.marks.now c.args.wear _ _ at c.restore.ensures.restored)

pub returns-clause-stored : goal.returns-clause-stored
returns-clause-stored c =
    let at = unit_found c.self.inside c.args.self.now c.args.unit _ c.self.invariant c.self.view_is c.requires.unit c.index_mut-found.ensures.value in
    let d : DriveView = drive_view c.self.inside in
    rw (← c.self.view_is) (ap stored
    (restored_by d c.args.unit c.args.chunk c.args.state c.args.bytes.now c.args.marks.now c.args.wear _ _ at c.restore.ensures.restored)
    ∙ stored-restored d c.args.unit c.args.chunk _ _ at.there)

pub index_mut-found-requires : goal.index_mut-found-requires
index_mut-found-requires c = unit_within c.self.inside c.args.self.now c.args.unit c.self.invariant c.self.view_is c.requires.unit

pub invariant_of-self : goal.invariant_of-self
invariant_of-self c = whole_again (drive_view c.self.inside) c.args.unit _ _ c.self.invariant
    (unit_found c.self.inside c.args.self.now c.args.unit _ c.self.invariant c.self.view_is c.requires.unit c.index_mut-found.ensures.value)
    c.restore.ensures.fits (ap (λ (u : WornUnit). u.unit.shape) c.restore.ensures.restored)

pub returns-clause-numbers : goal.returns-clause-numbers
returns-clause-numbers c = ap shape_of c.self.view_is

pub returns-clause-whole : goal.returns-clause-whole
returns-clause-whole c = invariant_of-self c
