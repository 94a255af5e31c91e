use Rattle.std.proofs.Common.{◌<◌, lit<, sym, ap, subst, ◌∙◌}
use Rattle.pblk_model.specs.declared.shape.Shape.{Shape}
use Rattle.pblk_model.specs.Shape.{units}
use Rattle.ocssd_drive.specs.Drive.{shape_of}
use Rattle.drive_tests.proofs.units.a_chunk_is_restored_with_its_wear.Goals as goal

pub new-requires-clause-geometry : goal.new-requires-clause-geometry
new-requires-clause-geometry g c = c.small.ensures.accepted

pub new-requires-clause-shape : goal.new-requires-clause-shape
new-requires-clause-shape g c = c.small.ensures.drive

pub restore-requires-clause-unit : goal.restore-requires-clause-unit
restore-requires-clause-unit g c = subst (λ (s : Shape). 1 < units s) (sym (ap shape_of c.in_ok-drive.ensures.new ∙ c.small.ensures.shape)) (lit< tt)

pub restore-requires-clause-chunk : goal.restore-requires-clause-chunk
restore-requires-clause-chunk g c = subst (λ (s : Shape). 3 < s.chunks) (sym (ap shape_of c.in_ok-drive.ensures.new ∙ c.small.ensures.shape)) (lit< tt)
