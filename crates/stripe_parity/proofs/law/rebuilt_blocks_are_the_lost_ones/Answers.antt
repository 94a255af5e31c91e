use Rattle.stripe_parity.proofs.RebuiltBlocks.{rebuilt_is}
use Rattle.stripe_parity.proofs.law.rebuilt_blocks_are_the_lost_ones.Goals as goal

pub returns : goal.returns
returns c = rebuilt_is
