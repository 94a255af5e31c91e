use Rattle.pblk_laws.proofs.ChunkStep.{stop_appends}
use Rattle.pblk_laws.proofs.chunk_step.stop_appends.Goals as goal

pub returns : goal.returns
returns c = stop_appends
