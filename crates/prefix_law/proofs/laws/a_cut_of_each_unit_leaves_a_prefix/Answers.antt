use Rattle.prefix_law.proofs.Prefix.{cut_contents, cut_above, cut_within}
use Rattle.prefix_law.proofs.laws.a_cut_of_each_unit_leaves_a_prefix.Goals as goal

pub returns : goal.returns
returns c = record { contents = cut_contents; above = cut_above; within = cut_within }
