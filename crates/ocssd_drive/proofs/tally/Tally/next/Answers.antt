use Rattle.ocssd_drive.proofs.TallySteps.{planned_next}
use Rattle.ocssd_drive.proofs.tally.Tally.next.Goals as goal

pub returns : goal.returns
returns c plans unit kind n tally =
    planned_next plans unit kind n c.self.inside.count c.self.inside.falls.items _ _ c.self.invariant c.saturating_add.ensures (rw c.deref.ensures.value at c.cut_on.ensures) (rw (← c.self.view_is) at tally)
