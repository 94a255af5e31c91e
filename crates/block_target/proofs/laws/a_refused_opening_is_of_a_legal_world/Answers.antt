use Rattle.block_target.proofs.Readied.{are_readied}
use Rattle.block_target.proofs.laws.a_refused_opening_is_of_a_legal_world.Goals as goal

pub returns : goal.returns
returns c = λ s us new opens. are_readied s us new opens.accepted opens.fit opens.armed
