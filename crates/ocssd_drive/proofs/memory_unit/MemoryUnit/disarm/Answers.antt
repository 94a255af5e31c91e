use Rattle.std.proofs.Common.{refl, length}
use Rattle.unit_port.specs.Armed.{unarmed}
use Rattle.ocssd_drive.specs.Outcomes.{GoesByArms}
use Rattle.ocssd_drive.specs.UnitFields.{worn_unit}
use Rattle.ocssd_drive.proofs.ByArms.{armed_now}
use Rattle.ocssd_drive.proofs.memory_unit.MemoryUnit.disarm.Goals as goal

pub invariant_of-self : goal.invariant_of-self
invariant_of-self c = record {
  accepted = c.self.invariant.accepted;
  count = c.self.invariant.count;
  chunks = c.self.invariant.chunks;
  worn = c.self.invariant.worn;
  worn_fits = c.self.invariant.worn_fits;
  by_arms = rw (c.disarm.ensures.armed, c.disarm.ensures.log) (armed_now c.self.inside.shape
      (unarmed (length c.self.inside.journal.log)) c.self.inside.journal.log refl);
}

pub returns-clause-by_arms : goal.returns-clause-by_arms
returns-clause-by_arms c =
    let here : GoesByArms (worn_unit c.self.inside) = record { calm = c.disarm.ensures.calm; outcomes = c.self.invariant.by_arms.events } in
    rw c.self.view_is at here
