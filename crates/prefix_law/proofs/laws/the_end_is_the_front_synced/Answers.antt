use Rattle.prefix_law.proofs.Prefix.{end_where_answered}
use Rattle.prefix_law.proofs.laws.the_end_is_the_front_synced.Goals as goal

pub returns : goal.returns
returns c = λ i w b mount sealed begins again answered. end_where_answered i w b mount sealed begins again answered
