use Rattle.world_laws.proofs.StripeBlocks.{placed_begins_none}
use Rattle.world_laws.proofs.mounts.no_stripe_begins_a_narrower_line.Goals as goal

pub returns : goal.returns
returns c = placed_begins_none
