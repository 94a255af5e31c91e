use Rattle.prefix_law.proofs.Prefix.{end_at_unplaced}
use Rattle.prefix_law.proofs.laws.an_unplaced_front_is_the_end.Goals as goal

pub returns : goal.returns
returns c = λ i w b mount sealed begins none. end_at_unplaced i w b mount sealed begins none
