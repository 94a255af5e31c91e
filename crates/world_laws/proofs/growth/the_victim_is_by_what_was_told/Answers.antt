use Rattle.world_laws.proofs.ToldPads.{at_work_told, pads_told}
use Rattle.world_laws.proofs.growth.the_victim_is_by_what_was_told.Goals as goal

pub returns : goal.returns
returns c = record { victim = at_work_told; pads = pads_told }
