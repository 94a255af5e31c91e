use Rattle.std.proofs.lemmas.List.{length-replicate}
use Rattle.ocssd_drive.proofs.Drives.{shapes_new}
use Rattle.ocssd_drive.proofs.Restoring.{stored-new}
use Rattle.ocssd_drive.proofs.drive.Drive.new.Goals as goal

pub invariant_of-result : goal.invariant_of-result
invariant_of-result c = rw (c.in_ok-units.ensures, c.shape-shape.ensures) record {
  geometry_is = c.requires.geometry;
  accepted = c.requires.shape;
  count = length-replicate _ _;
  fit = shapes_new _ _;
}

pub returns-clause-whole : goal.returns-clause-whole
returns-clause-whole c = invariant_of-result c

pub returns-clause-stored : goal.returns-clause-stored
returns-clause-stored c = rw (c.in_ok-units.ensures, c.shape-shape.ensures) (stored-new c.args.geometry c.args.sector c.args.capacity c.args.ring)
