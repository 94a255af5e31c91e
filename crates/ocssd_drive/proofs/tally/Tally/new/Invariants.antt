use Rattle.std.proofs.Common.{ℕ, ◌≡◌, ◌<◌, take}
use Rattle.ocssd_drive.specs.Faults.{planned}
use Rattle.ocssd_drive.specs.Tally.{cut_of, IsFalling}
use Rattle.ocssd_drive.proofs.tally.Tally.new.Given as goal

abbrev pub invariant-loop-plan : goal.invariant-loop-plan
invariant-loop-plan l = record {
  falling : IsFalling l.falls.items;
  cuts : (m : ℕ) → 0 < m → cut_of l.falls.items m ≡ planned (take l.plan-index l.plans) l.unit l.kind m;
}
