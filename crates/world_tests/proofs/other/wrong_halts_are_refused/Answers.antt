use Rattle.world_tests.proofs.OtherWorlds.{no_more_lands, no_stripe_beside}
use Rattle.world_tests.proofs.other.wrong_halts_are_refused.Goals as goal

pub returns : goal.returns
returns c = record { lands = no_more_lands; placed = no_stripe_beside }
