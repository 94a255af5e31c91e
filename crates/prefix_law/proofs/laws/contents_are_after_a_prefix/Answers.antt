use Rattle.prefix_law.proofs.Prefix.{prefix_contents, prefix_above, end_within}
use Rattle.prefix_law.proofs.laws.contents_are_after_a_prefix.Goals as goal

pub returns : goal.returns
returns c = record {
  contents = prefix_contents;
  above = prefix_above;
  within = λ i w b mount sealed begins. end_within i w b mount sealed begins;
}
