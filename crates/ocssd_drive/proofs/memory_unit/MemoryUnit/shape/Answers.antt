use Rattle.std.proofs.Common.{◌∙◌, ap, sym, length}
use Rattle.std.proofs.lemmas.List.{length-map}
use Rattle.ocssd_drive.specs.Units.{WornUnit}
use Rattle.ocssd_drive.proofs.UnitChunks.{unit_of}
use Rattle.ocssd_drive.proofs.memory_unit.MemoryUnit.shape.Goals as goal

pub returns-clause-fits : goal.returns-clause-fits
returns-clause-fits c = rw (← c.self.view_is) (unit_of c.self.inside c.self.invariant)

pub returns-clause-shape : goal.returns-clause-shape
returns-clause-shape c = ap (λ (v : WornUnit). v.unit.shape) c.self.view_is

pub returns-clause-chunks : goal.returns-clause-chunks
returns-clause-chunks c = sym (length-map _ _ ∙ c.self.invariant.count) ∙ ap (λ (v : WornUnit). length v.unit.media) c.self.view_is

pub returns-clause-accepted : goal.returns-clause-accepted
returns-clause-accepted c = c.self.invariant.accepted
