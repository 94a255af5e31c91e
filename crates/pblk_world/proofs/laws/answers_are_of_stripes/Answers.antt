use Rattle.pblk_world.proofs.Answered.{answers_fit}
use Rattle.pblk_world.proofs.laws.answers_are_of_stripes.Goals as goal

pub returns : goal.returns
returns c = answers_fit
