use Rattle.world_tests.proofs.OtherWorlds.{stray_legal}
use Rattle.world_tests.proofs.other.a_world_with_a_stray_is_legal.Goals as goal

pub returns : goal.returns
returns c = stray_legal
