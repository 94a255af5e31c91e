use Rattle.vector_io.proofs.UnitLogs.{unit_had}
use Rattle.vector_io.proofs.laws.each_unit_has_its_events.Goals as goal

pub returns : goal.returns
returns c = unit_had
