use Rattle.ocssd_drive.proofs.Drives.{unit_seen, unit_within}
use Rattle.ocssd_drive.proofs.drive.Drive.unit.Goals as goal

pub index-requires : goal.index-requires
index-requires c = unit_within c.self.inside c.args.self.now c.args.unit c.self.invariant c.self.view_is c.requires

pub returns-clause-unit : goal.returns-clause-unit
returns-clause-unit c = (unit_seen c.self.inside c.args.self.now c.args.unit _ c.self.invariant c.self.view_is c.requires c.index.ensures).there

pub returns-clause-fits : goal.returns-clause-fits
returns-clause-fits c = (unit_seen c.self.inside c.args.self.now c.args.unit _ c.self.invariant c.self.view_is c.requires c.index.ensures).fits
