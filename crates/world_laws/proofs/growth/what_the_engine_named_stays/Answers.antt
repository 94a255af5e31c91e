use Rattle.world_laws.proofs.GrownLogs.{at_named, grown_later, named_back, named_grown}
use Rattle.world_laws.proofs.growth.what_the_engine_named_stays.Goals as goal

pub returns : goal.returns
returns c = record { later = grown_later; grown = named_grown; back = named_back; at = at_named }
