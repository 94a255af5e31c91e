use Rattle.std.proofs.Common.{arith}
use Rattle.write_ring.specs.Frames.{IsFree, IsBlank, Carries, Fits}
use Rattle.write_ring.proofs.Moves.{grants}
use Rattle.write_ring.proofs.table.Ring.grant.Goals as goal

pub store-requires : goal.store-requires
store-requires c = (
  c.requires.ring.0,
  omega (arith, c.args.self.now.words),
  grants _ IsFree IsBlank Carries Fits _ _ _ _ _ c.args.intake.now.on c.requires.rises c.requires.reserve c.requires.most,
)
