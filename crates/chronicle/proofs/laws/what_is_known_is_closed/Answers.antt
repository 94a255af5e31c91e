use Rattle.chronicle.proofs.Worlds.{known_closed}
use Rattle.chronicle.proofs.laws.what_is_known_is_closed.Goals as goal

pub returns : goal.returns
returns c = known_closed
