use Rattle.room_law.proofs.SettledRuns.{ends}
use Rattle.room_law.proofs.settling.a_settling_ends.Goals as goal

pub returns : goal.returns
returns c = ends
