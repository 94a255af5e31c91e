use Rattle.core_laws.proofs.SpentLines.{is_spent}
use Rattle.core_laws.proofs.FreeLines.{may_free}
use Rattle.core_laws.proofs.laws.a_line_may_be_freed_where_it_is_spent.Goals as goal

pub returns : goal.returns
returns c = record {
  spent = λ i w line mount may. is_spent i w mount line may;
  free =
      λ i w line b mount begins full spent. may_free i w mount b begins full line spent;
}
