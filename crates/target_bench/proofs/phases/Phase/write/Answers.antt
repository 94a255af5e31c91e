use Rattle.std.proofs.Common.{arith}
use Rattle.target_bench.proofs.phases.Phase.write.Goals as goal

pub write-requires : goal.write-requires
write-requires g c =
    let size = c.requires.sector in
    let bytes = c.requires.bytes in
    record { sectors = record { count = 16; some = omega arith; few = omega arith; whole = omega (arith, size, bytes) } }
