use Rattle.std.proofs.Common.{length}
use Rattle.ocssd_geometry.specs.Numbers.{numbers_of}
use Rattle.drive_tests.specs.Fits.{models}
use Rattle.drive_tests.proofs.Checks.{fit_units, fit_sectors}
use Rattle.drive_tests.proofs.vector.harness.read.Goals as goal

pub read-requires-clause-units : goal.read-requires-clause-units
read-requires-clause-units c = rw c.in_ok-vector.ensures.vector (fit_units (numbers_of c.args.geometry.now) (models c.args.units.now)
    (c.fit.ensures c.if-not-fit.false))

pub read-requires-clause-sectors : goal.read-requires-clause-sectors
read-requires-clause-sectors c = fit_sectors (numbers_of c.args.geometry.now) (models c.args.units.now) (length c.args.out.now) (length c.args.marks.now)
    (c.fit.ensures c.if-not-fit.false) c.if-out-marks.false
