use Rattle.std.proofs.Common.{◌∙◌, ap}
use Rattle.ocssd_drive.specs.Drive.{DriveView, stored}
use Rattle.ocssd_drive.specs.DriveFields.{drive_view}
use Rattle.ocssd_drive.specs.Drive.{shape_of}
use Rattle.ocssd_drive.specs.Units.{WornUnit}
use Rattle.ocssd_drive.proofs.Drives.{unit_found, unit_within, whole_again}
use Rattle.ocssd_drive.proofs.Restoring.{restored_is, stored-restored}
use Rattle.ocssd_drive.proofs.drive.Drive.adopt.Goals as goal

pub adopt-requires-clause-chunk : goal.adopt-requires-clause-chunk
adopt-requires-clause-chunk c =
    let at = unit_found c.self.inside c.args.self.now c.args.unit _ c.self.invariant c.self.view_is c.requires.unit c.index_mut-found.ensures.value in
    rw (at.fits.fits.count, at.fits.shape) (rw (← c.self.view_is) at c.requires.chunk)

pub adopt-requires-clause-whole : goal.adopt-requires-clause-whole
adopt-requires-clause-whole c =
    let at = unit_found c.self.inside c.args.self.now c.args.unit _ c.self.invariant c.self.view_is c.requires.unit c.index_mut-found.ensures.value in
    rw (at.fits.shape) (rw (← c.self.view_is) at c.requires.whole)

pub adopt-requires-clause-place : goal.adopt-requires-clause-place
adopt-requires-clause-place c =
    let at = unit_found c.self.inside c.args.self.now c.args.unit _ c.self.invariant c.self.view_is c.requires.unit c.index_mut-found.ensures.value in
    rw (at.fits.shape) (rw (← c.self.view_is) at c.requires.place)

pub adopt-requires-clause-multiple : goal.adopt-requires-clause-multiple
adopt-requires-clause-multiple c =
    let at = unit_found c.self.inside c.args.self.now c.args.unit _ c.self.invariant c.self.view_is c.requires.unit c.index_mut-found.ensures.value in
    rw (at.fits.shape) (rw (← c.self.view_is) at c.requires.multiple)

pub returns-clause-restored : goal.returns-clause-restored
returns-clause-restored c =
    let at = unit_found c.self.inside c.args.self.now c.args.unit _ c.self.invariant c.self.view_is c.requires.unit c.index_mut-found.ensures.value in
    let d : DriveView = drive_view c.self.inside in
    let r = c.adopt.ensures.restored in
    rw (← c.self.view_is) (record {
      blocks = r.blocks;
      spelling = r.spelling;
      count_is = r.count_is;
      is = restored_is d c.args.unit c.args.chunk _ _ _ at.there r.is;
      kept = ap stored (restored_is d c.args.unit c.args.chunk _ _ _ at.there r.is) ∙ stored-restored d c.args.unit c.args.chunk _ _ at.there;
    })

pub index_mut-found-requires : goal.index_mut-found-requires
index_mut-found-requires c = unit_within c.self.inside c.args.self.now c.args.unit c.self.invariant c.self.view_is c.requires.unit

pub invariant_of-self : goal.invariant_of-self
invariant_of-self c = whole_again (drive_view c.self.inside) c.args.unit _ _ c.self.invariant
    (unit_found c.self.inside c.args.self.now c.args.unit _ c.self.invariant c.self.view_is c.requires.unit c.index_mut-found.ensures.value)
    c.adopt.ensures.fits (ap (λ (u : WornUnit). u.unit.shape) c.adopt.ensures.restored.is)

pub returns-clause-numbers : goal.returns-clause-numbers
returns-clause-numbers c = ap shape_of c.self.view_is

pub returns-clause-whole : goal.returns-clause-whole
returns-clause-whole c = invariant_of-self c
