use Rattle.std.proofs.Common.{arith}
use Rattle.write_ring.specs.Frames.{IsFree, IsBlank, Carries, Fits}
use Rattle.write_ring.proofs.Moves.{looks_granted}
use Rattle.write_ring.proofs.table.Ring.look_granted.Goals as goal

pub load-requires : goal.load-requires
load-requires c = (c.requires.ring, omega (arith, c.args.self.now.words), looks_granted _ IsFree IsBlank Carries Fits _ _ _ _)
