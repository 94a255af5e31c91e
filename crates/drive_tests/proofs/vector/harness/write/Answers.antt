use Rattle.std.proofs.Common.{length, sym, subst}
use Rattle.pblk_model.specs.Blocks.{blocks_of}
use Rattle.ocssd_geometry.specs.Numbers.{numbers_of}
use Rattle.unit_port.specs.Commands.{AreTaken}
use Rattle.vector_io.specs.Plans.{AreOfChunksApart, writes}
use Rattle.drive_tests.specs.Fits.{models}
use Rattle.drive_tests.proofs.Checks.{fit_units, fit_sectors, sectors_of}
use Rattle.drive_tests.proofs.vector.harness.write.Goals as goal
use Rattle.vector_io.proofs.AddressesLemmas.{some_marks}

pub write-requires-clause-units : goal.write-requires-clause-units
write-requires-clause-units c = rw c.in_ok-vector.ensures.vector (fit_units (numbers_of c.args.geometry.now) (models c.args.units.now)
    (c.fit.ensures c.if-not-fit.false))

pub write-requires-clause-sectors : goal.write-requires-clause-sectors
write-requires-clause-sectors c = fit_sectors (numbers_of c.args.geometry.now) (models c.args.units.now) (length c.args.bytes.now)
    (length c.args.marks.now) (c.fit.ensures c.if-not-fit.false) c.if-bytes-marks.false

pub write-requires-clause-apart : goal.write-requires-clause-apart
write-requires-clause-apart c = rw c.in_ok-vector.ensures.vector
    (subst (λ n. AreOfChunksApart (writes (numbers_of c.args.geometry.now) c.args.addresses.now (blocks_of n c.args.bytes.now c.args.marks.now)))
    (sym (sectors_of (length c.args.bytes.now) (length c.args.marks.now)
    (some_marks (length c.args.marks.now) (length c.args.addresses.now) c.if-marks-addresses.false
    (rw c.in_ok-vector.ensures.vector at c.in_ok-vector.ensures.sound).count) c.if-bytes-marks.false))
    (c.can_write.ensures c.if-not-can_write.false).apart)

pub write-requires-clause-taken : goal.write-requires-clause-taken
write-requires-clause-taken c = rw c.in_ok-vector.ensures.vector
    (subst (λ n. AreTaken (models c.args.units.now) (writes (numbers_of c.args.geometry.now) c.args.addresses.now
    (blocks_of n c.args.bytes.now c.args.marks.now)))
    (sym (sectors_of (length c.args.bytes.now) (length c.args.marks.now)
    (some_marks (length c.args.marks.now) (length c.args.addresses.now) c.if-marks-addresses.false
    (rw c.in_ok-vector.ensures.vector at c.in_ok-vector.ensures.sound).count) c.if-bytes-marks.false))
    (c.can_write.ensures c.if-not-can_write.false).taken)
