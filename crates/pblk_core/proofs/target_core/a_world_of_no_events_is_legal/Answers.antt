use Rattle.pblk_core.proofs.Laws.{no_events}
use Rattle.pblk_core.proofs.target_core.a_world_of_no_events_is_legal.Goals as goal

pub returns : goal.returns
returns c = no_events
