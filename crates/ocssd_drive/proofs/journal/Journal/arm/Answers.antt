use Rattle.ocssd_drive.proofs.Kept.{kept_anew, last_arms-add}
use Rattle.std.proofs.Common.{refl, ap, ◌∙◌}
use Rattle.ocssd_drive.specs.Fields.{last_arms}
use Rattle.ocssd_drive.proofs.journal.Journal.arm.Goals as goal

pub invariant_of-self : goal.invariant_of-self
invariant_of-self c =
    kept_anew c.self.inside.log c.self.inside.events c.add.new.self c.args.arming c.fuse_of-self-inside.result _ (ap last_arms c.add.ensures ∙ last_arms-add c.self.inside.arms _)
    refl c.self.invariant.events c.requires.programs c.requires.fetches c.requires.resets c.fuse_of-self-inside.ensures c.requires.stop refl

pub returns-clause-armed : goal.returns-clause-armed
returns-clause-armed c = rw (← c.self.view_is) (ap last_arms c.add.ensures ∙ last_arms-add c.self.inside.arms _)
