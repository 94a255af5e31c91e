use Rattle.std.proofs.Common.{arith}
use Rattle.ocssd_geometry.specs.Numbers.{numbers_of}
use Rattle.drive_tests.specs.Fits.{models}
use Rattle.drive_tests.proofs.Checks.{all_read}
use Rattle.drive_tests.proofs.vector.harness.can_read.Goals as goal

pub returns : goal.returns
returns c is = all_read (numbers_of c.args.geometry.now) c.args.addresses.now (models c.args.units.now) (λ k a below. c.loop-i.invariant k a (omega arith))
