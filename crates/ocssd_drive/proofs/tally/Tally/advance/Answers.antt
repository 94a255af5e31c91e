use Rattle.ocssd_drive.proofs.TallySteps.{tally_next}
use Rattle.ocssd_drive.proofs.tally.Tally.advance.Goals as goal

pub returns : goal.returns
returns c plans unit kind n tally =
    let facts = c.drop_fallen.ensures in
    tally_next plans unit kind n c.self.inside.count c.self.inside.falls.items _ _ c.saturating_add-self-inside.ensures facts.falling facts.later facts.ahead (rw (← c.self.view_is) at tally)
