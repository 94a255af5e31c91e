use Rattle.std.proofs.Common.{arith, rules, ◌≡◌}
use Rattle.pblk_model.specs.declared.shape.Address.{Address}
use Rattle.ocssd_geometry.specs.Numbers.{numbers_of}
use Rattle.unit_port.specs.Commands.{IsTaken}
use Rattle.vector_io.specs.Plans.{reset_of}
use Rattle.drive_tests.specs.Fits.{models}
use Rattle.drive_tests.proofs.Checks.{each_more, all_reset}
use Rattle.drive_tests.proofs.vector.harness.can_reset.Goals as goal

pub loop-i-preserved : goal.loop-i-preserved
loop-i-preserved c = each_more (λ (a : Address). (a.block ≡ 0) × IsTaken (models c.args.units.now) (reset_of (numbers_of c.args.geometry.now) a))
    c.args.addresses.now c.loop-i.i _ c.loop-i-test.true c.loop-i.invariant
    (c.if-address-ne0.false, c.takes_reset.ensures (search rules))

pub returns : goal.returns
returns c is = all_reset (numbers_of c.args.geometry.now) c.args.addresses.now (models c.args.units.now) (λ k a below. c.loop-i.invariant k a (omega arith))
