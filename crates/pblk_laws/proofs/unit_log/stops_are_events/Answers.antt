use Rattle.pblk_laws.proofs.UnitLog.{stop_event}
use Rattle.pblk_laws.proofs.unit_log.stops_are_events.Goals as goal

pub returns : goal.returns
returns c = stop_event
