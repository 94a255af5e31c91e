use Rattle.std.proofs.Common.{arith}
use Rattle.write_ring.specs.Frames.{IsFree, IsBlank, Carries, Fits}
use Rattle.write_ring.proofs.Joins.{splits_pass}
use Rattle.write_ring.proofs.table.Ring.split.Goals as goal

pub split_seat-requires : goal.split_seat-requires
split_seat-requires c = (c.requires.ring.0, omega (arith, c.args.self.now.words), splits_pass _ IsFree IsBlank Carries Fits _ _ c.requires.shares)
