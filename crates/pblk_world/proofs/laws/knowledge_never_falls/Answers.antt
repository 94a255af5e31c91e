use Rattle.pblk_world.proofs.Growing.{knowledge_rises}
use Rattle.pblk_world.proofs.laws.knowledge_never_falls.Goals as goal

pub returns : goal.returns
returns c = knowledge_rises
