use Rattle.world_laws.proofs.KnownCut.{cut_is_legal, log_of_cut, step_after_cut}
use Rattle.world_laws.proofs.mounts.what_is_known_is_a_legal_world.Goals as goal

pub returns : goal.returns
returns c = record { legal = cut_is_legal; logs = log_of_cut; step = step_after_cut }
