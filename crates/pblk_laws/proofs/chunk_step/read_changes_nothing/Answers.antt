use Rattle.pblk_laws.proofs.ChunkStep.{read_same, read_stop_same}
use Rattle.pblk_laws.proofs.chunk_step.read_changes_nothing.Goals as goal

pub returns : goal.returns
returns c = record { step = read_same; failure = λ s old new b h. h.1; stop = read_stop_same }
