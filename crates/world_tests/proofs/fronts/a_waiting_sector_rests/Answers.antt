use Rattle.world_tests.proofs.Resting.{rests, asked_for}
use Rattle.world_tests.proofs.fronts.a_waiting_sector_rests.Goals as goal

pub returns : goal.returns
returns c = record { rests = rests; asked = asked_for }
