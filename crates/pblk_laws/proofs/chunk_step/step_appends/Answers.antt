use Rattle.pblk_laws.proofs.ChunkStep.{step_appends}
use Rattle.pblk_laws.proofs.chunk_step.step_appends.Goals as goal

pub returns : goal.returns
returns c = step_appends
