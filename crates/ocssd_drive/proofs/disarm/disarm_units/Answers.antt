use Rattle.ocssd_drive.proofs.Fusing.{none_stopped}
use Rattle.ocssd_drive.proofs.disarm.disarm_units.Goals as goal

pub returns-in-None-clause-stopped : goal.returns-in-None-clause-stopped
returns-in-None-clause-stopped c = none_stopped c.args.units.now c.requires c.in-None.ensures.none c.disarm_plain.ensures.by_arms
