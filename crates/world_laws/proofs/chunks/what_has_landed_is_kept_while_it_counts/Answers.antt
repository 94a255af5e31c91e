use Rattle.world_laws.proofs.KeptEntries.{freed_below, latest_kept, winner_kept}
use Rattle.world_laws.proofs.chunks.what_has_landed_is_kept_while_it_counts.Goals as goal

pub returns : goal.returns
returns c = record { freed = freed_below; latest = latest_kept; winner = winner_kept }
