use Rattle.pblk_laws.proofs.ChunkStep.{stop_is_chunk}
use Rattle.pblk_laws.proofs.chunk_step.stop_keeps_chunk.Goals as goal

pub returns : goal.returns
returns c = stop_is_chunk
