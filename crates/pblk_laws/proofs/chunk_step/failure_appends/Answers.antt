use Rattle.pblk_laws.proofs.ChunkStep.{failure_appends}
use Rattle.pblk_laws.proofs.chunk_step.failure_appends.Goals as goal

pub returns : goal.returns
returns c = failure_appends
