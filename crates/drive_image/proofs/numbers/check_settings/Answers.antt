use Rattle.std.proofs.Common.{refl, subst}
use Rattle.pblk_model.specs.Accepted.{IsAccepted}
use Rattle.ocssd_geometry.specs.Numbers.{numbers_of}
use Rattle.drive_image.proofs.numbers.check_settings.Goals as goal
use Rattle.pblk_model.proofs.GeometryLemmas.{drive_shape_is}

pub broken_setting-requires : goal.broken_setting-requires
broken_setting-requires c = rw c.shape-shape.ensures (drive_shape_is (numbers_of c.args.geometry.now) _ _ _ c.requires)

pub returns-in-None-clause-accepted : goal.returns-in-None-clause-accepted
returns-in-None-clause-accepted c = subst IsAccepted c.shape-shape.ensures (c.in-None.ensures.accepted.0 refl)
