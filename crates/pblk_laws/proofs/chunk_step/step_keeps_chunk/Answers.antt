use Rattle.pblk_laws.proofs.ChunkStep.{step_is_chunk}
use Rattle.pblk_laws.proofs.chunk_step.step_keeps_chunk.Goals as goal

pub returns : goal.returns
returns c = step_is_chunk
