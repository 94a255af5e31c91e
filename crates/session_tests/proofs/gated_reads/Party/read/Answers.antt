use Rattle.std.proofs.Common.{arith}
use Rattle.session_tests.proofs.gated_reads.Party.read.Goals as goal

pub read-requires : goal.read-requires
read-requires g c =
    let size = c.requires.sector in
    record { sectors = record { count = 2; some = omega arith; few = omega arith; whole = omega (arith, size) } }
