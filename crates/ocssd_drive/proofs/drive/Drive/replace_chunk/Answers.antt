use Rattle.std.proofs.Common.{ap}
use Rattle.ocssd_drive.specs.DriveFields.{drive_view}
use Rattle.ocssd_drive.specs.Drive.{shape_of}
use Rattle.ocssd_drive.specs.Units.{WornUnit}
use Rattle.ocssd_drive.proofs.Drives.{unit_found, unit_within, whole_again}
use Rattle.ocssd_drive.proofs.Restoring.{replaced_by}
use Rattle.ocssd_drive.proofs.drive.Drive.replace_chunk.Goals as goal

pub replace_chunk-requires-clause-chunk : goal.replace_chunk-requires-clause-chunk
replace_chunk-requires-clause-chunk c =
    let at = unit_found c.self.inside c.args.self.now c.args.unit _ c.self.invariant c.self.view_is c.requires.unit c.index_mut-found.ensures.value in
    rw (at.fits.fits.count, at.fits.shape) (rw (← c.self.view_is) at c.requires.chunk)

pub replace_chunk-requires-clause-with : goal.replace_chunk-requires-clause-with
replace_chunk-requires-clause-with c =
    let at = unit_found c.self.inside c.args.self.now c.args.unit _ c.self.invariant c.self.view_is c.requires.unit c.index_mut-found.ensures.value in
    rw (at.fits.shape) (rw (← c.self.view_is) at c.requires.with)

pub returns-clause-replaced : goal.returns-clause-replaced
returns-clause-replaced c =
    let at = unit_found c.self.inside c.args.self.now c.args.unit _ c.self.invariant c.self.view_is c.requires.unit c.index_mut-found.ensures.value in
    rw (← c.self.view_is) (replaced_by (drive_view c.self.inside) c.args.unit c.args.chunk c.args.with.chunk _ _ at c.replace_chunk.ensures.replaced)

pub index_mut-found-requires : goal.index_mut-found-requires
index_mut-found-requires c = unit_within c.self.inside c.args.self.now c.args.unit c.self.invariant c.self.view_is c.requires.unit

pub invariant_of-self : goal.invariant_of-self
invariant_of-self c = whole_again (drive_view c.self.inside) c.args.unit _ _ c.self.invariant
    (unit_found c.self.inside c.args.self.now c.args.unit _ c.self.invariant c.self.view_is c.requires.unit c.index_mut-found.ensures.value)
    c.replace_chunk.ensures.fits (ap (λ (u : WornUnit). u.unit.shape) c.replace_chunk.ensures.replaced)

pub returns-clause-numbers : goal.returns-clause-numbers
returns-clause-numbers c = ap shape_of c.self.view_is

pub returns-clause-whole : goal.returns-clause-whole
returns-clause-whole c = invariant_of-self c
