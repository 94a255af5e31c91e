use Rattle.pblk_laws.proofs.ChunkStep.{refused_same}
use Rattle.pblk_laws.proofs.chunk_step.refused_changes_nothing.Goals as goal

pub returns : goal.returns
returns c = refused_same
