use Rattle.world_laws.proofs.NotedChunks.{as_known, used_or_stopped}
use Rattle.world_laws.proofs.noted.a_chunk_is_as_it_is_known.Goals as goal

pub returns : goal.returns
returns c = record {
  used = λ i w legal b begins unit line c noted. used_or_stopped i w legal b begins unit line noted c;
  unopened = λ i w legal b begins unit line c noted. as_known i w legal b begins unit line noted c;
}
