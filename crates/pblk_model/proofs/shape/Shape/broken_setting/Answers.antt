use Rattle.pblk_model.proofs.Settings.{settings_agree}
use Rattle.pblk_model.proofs.shape.Shape.broken_setting.Goals as goal

pub returns-clause-accepted : goal.returns-clause-accepted
returns-clause-accepted c = settings_agree c.args.self.now _ c.requires c.first_broken_setting.ensures
