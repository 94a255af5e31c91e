use Rattle.vector_io.proofs.RunLengths.{all_placed}
use Rattle.vector_io.proofs.laws.programs_have_each_address.Goals as goal

pub returns : goal.returns
returns c = all_placed
