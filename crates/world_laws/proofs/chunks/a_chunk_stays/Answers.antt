use Rattle.world_laws.proofs.KeptChunks.{found_stays, kept_or_emptied, none_after_freeing, none_in_found}
use Rattle.world_laws.proofs.Resets.{empty_until}
use Rattle.world_laws.proofs.Stops.{stays_after_stop}
use Rattle.world_laws.proofs.chunks.a_chunk_stays.Goals as goal

pub returns : goal.returns
returns c = record {
  stopped = stays_after_stop;
  empty = empty_until;
  emptied = kept_or_emptied;
  found = none_in_found;
  freed = none_after_freeing;
  kept = found_stays;
}
