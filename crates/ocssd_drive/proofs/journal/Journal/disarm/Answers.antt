use Rattle.std.proofs.Common.{refl, ap, ◌∙◌, None}
use Rattle.ocssd_drive.specs.Fields.{last_arms}
use Rattle.ocssd_drive.proofs.Kept.{kept_anew, last_arms-add, idle_is_tally}
use Rattle.ocssd_drive.proofs.journal.Journal.disarm.Goals as goal

pub invariant_of-self : goal.invariant_of-self
invariant_of-self c =
    kept_anew c.self.inside.log c.self.inside.events c.add.new.self _ None _ (ap last_arms c.add.ensures ∙ last_arms-add c.self.inside.arms _)
    refl c.self.invariant.events (idle_is_tally _ _ c.clear.ensures) (idle_is_tally _ _ c.clear-2.ensures) (idle_is_tally _ _ c.clear-3.ensures)
    refl (rw c.take.ensures.after tt) (rw c.take.ensures.after refl)

pub returns-clause-armed : goal.returns-clause-armed
returns-clause-armed c = rw (← c.self.view_is) (ap last_arms c.add.ensures ∙ last_arms-add c.self.inside.arms _)
