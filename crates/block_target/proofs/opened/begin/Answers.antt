use Rattle.std.specs.Prelude.{map}
use Rattle.scan_recovery.proofs.HandedBack.{back_as_they_were}
use Rattle.block_target.proofs.opened.begin.Goals as goal

pub returns-in_default-clause-handed_back : goal.returns-in_default-clause-handed_back
returns-in_default-clause-handed_back g c = back_as_they_were c.args.shape.now (map g.U.Unit.model c.args.units.now)
