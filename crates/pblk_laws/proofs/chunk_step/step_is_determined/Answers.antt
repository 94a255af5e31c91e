use Rattle.pblk_laws.proofs.ChunkStep.{determined}
use Rattle.pblk_laws.proofs.chunk_step.step_is_determined.Goals as goal

pub returns : goal.returns
returns c = determined
