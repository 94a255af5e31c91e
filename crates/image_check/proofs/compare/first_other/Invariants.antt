use Rattle.image_check.proofs.CompareLemmas.{IsLeft}
use Rattle.image_check.proofs.compare.first_other.Given as goal

abbrev pub invariant-loop-place : goal.invariant-loop-place
invariant-loop-place g l = IsLeft g.N.Numbered.of l.right l.said l.place
