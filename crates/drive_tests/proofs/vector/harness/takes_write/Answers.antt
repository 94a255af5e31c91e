use Rattle.std.proofs.Common.{refl, sym, length}
use Rattle.std.proofs.lemmas.Option.{slice_get_read}
use Rattle.drive_tests.proofs.Checks.{write_taken}
use Rattle.drive_tests.proofs.vector.harness.takes_write.Goals as goal
use Rattle.pblk_model.proofs.Tests.{below_of}

pub returns-in-Some : goal.returns-in-Some
returns-in-Some c g is fit =
    write_taken g c.args.units.now c.args.unit c.args.chunk c.args.block c.args.bytes.now c.args.marks.now c.in-Some.found.now
    (slice_get_read c.args.units.now (length c.args.units.now) c.args.unit c.in-Some.found.now refl
    (below_of c.args.unit (length c.args.units.now) (sym c.in-Some.ensures.lookup.0)) c.in-Some.ensures.lookup.1)
    (c.takes_program.ensures.taken is) fit
