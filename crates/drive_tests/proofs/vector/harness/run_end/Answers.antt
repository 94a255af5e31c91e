use Rattle.ocssd_geometry.specs.Numbers.{numbers_of}
use Rattle.vector_io.proofs.RunLengths.{run_at_end}
use Rattle.drive_tests.proofs.vector.harness.run_end.Goals as goal

pub returns-clause-end : goal.returns-clause-end
returns-clause-end c = run_at_end (numbers_of c.args.geometry.now) c.args.addresses.now c.args.at c.loop-last.last c.loop-last.invariant c.loop-last-test.false
