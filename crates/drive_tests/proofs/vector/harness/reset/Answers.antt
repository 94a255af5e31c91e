use Rattle.ocssd_geometry.specs.Numbers.{numbers_of}
use Rattle.drive_tests.specs.Fits.{models}
use Rattle.drive_tests.proofs.Checks.{fit_units}
use Rattle.drive_tests.proofs.vector.harness.reset.Goals as goal

pub reset-requires-clause-units : goal.reset-requires-clause-units
reset-requires-clause-units c = rw c.in_ok-vector.ensures.vector (fit_units (numbers_of c.args.geometry.now) (models c.args.units.now)
    (c.fit.ensures c.if-not-fit.false))
