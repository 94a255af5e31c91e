use Rattle.ocssd_drive.proofs.UnitChunks.{fit}
use Rattle.ocssd_drive.proofs.memory_unit.MemoryUnitUnit.events.Goals as goal

pub returns-clause-fits : goal.returns-clause-fits
returns-clause-fits c = rw (← c.self.view_is) (fit c.self.inside c.self.invariant)
