use Rattle.world_laws.proofs.KnownPrefixes.{known_prefix, told_in_order}
use Rattle.world_laws.proofs.chunks.a_known_chunk_is_an_earlier_one.Goals as goal

pub returns : goal.returns
returns c = record { order = told_in_order; known = known_prefix }
