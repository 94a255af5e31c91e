use Rattle.world_laws.proofs.LifePlaces.{place_of_block, units_now, width_now}
use Rattle.world_laws.proofs.StripePlaces.{kth_place}
use Rattle.world_laws.proofs.chunks.a_stripe_has_its_place.Goals as goal

pub returns : goal.returns
returns c = record { units = units_now; width = width_now; line = place_of_block; chunk = kth_place }
