use Rattle.rest_laws.proofs.OneCopy.{synced_placed, synced_within_placed}
use Rattle.rest_laws.proofs.copying.what_is_synced_was_placed.Goals as goal

pub returns : goal.returns
returns c = record { placed = synced_placed; front = synced_within_placed }
