use Rattle.std.specs.Prelude.{length}
use Rattle.chronicle_crew.proofs.crew.+crew+fn-crew-join+arg3.Given as goal

abbrev pub decreases-crew : goal.decreases-crew
decreases-crew g l = length l.authors.items

abbrev pub decreases-join+arg3 : goal.decreases-join+arg3
decreases-join+arg3 g l = length l.authors.items
