use Rattle.chronicle_crew.proofs.Joining.{blank_opening}
use Rattle.chronicle_crew.proofs.crew.run.Goals as goal

pub new-requires-clause-opening : goal.new-requires-clause-opening
new-requires-clause-opening g c = blank_opening
