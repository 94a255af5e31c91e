use Rattle.std.proofs.Common.{refl}
use Rattle.ocssd_drive.proofs.ByArms.{armed_now}
use Rattle.ocssd_drive.proofs.memory_unit.MemoryUnit.arm.Goals as goal

pub invariant_of-self : goal.invariant_of-self
invariant_of-self c = record {
  accepted = c.self.invariant.accepted;
  count = c.self.invariant.count;
  chunks = c.self.invariant.chunks;
  worn = c.self.invariant.worn;
  worn_fits = c.self.invariant.worn_fits;
  by_arms = rw (c.arm.ensures.armed, c.arm.ensures.log) (armed_now c.self.inside.shape _ c.self.inside.journal.log refl);
}
