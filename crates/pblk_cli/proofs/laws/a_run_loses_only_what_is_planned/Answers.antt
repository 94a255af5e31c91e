use Rattle.pblk_model.specs.ImageFile.{image_of}
use Rattle.pblk_cli.specs.Stops.{fuse_on}
use Rattle.pblk_cli.proofs.Faultless.{unlost}
use Rattle.pblk_cli.proofs.laws.a_run_loses_only_what_is_planned.Goals as goal

pub returns : goal.returns
returns c = λ found left options commands t run unplanned.
    unlost (image_of found) run.world options.plans (fuse_on (image_of found) options.stop) run.outcomes run.legal unplanned
