use Rattle.core_laws.proofs.Growing.{landed_at_grown, synced_grown, freed_within}
use Rattle.core_laws.proofs.laws.the_front_synced_never_falls.Goals as goal

pub returns : goal.returns
returns c = record { landed = landed_at_grown; synced = synced_grown; freed = freed_within }
