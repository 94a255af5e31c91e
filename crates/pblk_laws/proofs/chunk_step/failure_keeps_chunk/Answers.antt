use Rattle.pblk_laws.proofs.ChunkStep.{failure_is_chunk}
use Rattle.pblk_laws.proofs.chunk_step.failure_keeps_chunk.Goals as goal

pub returns : goal.returns
returns c = failure_is_chunk
