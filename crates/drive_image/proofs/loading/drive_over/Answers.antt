use Rattle.std.proofs.Common.{◌≡◌, ℕ, List, sym, ap, ◌∙◌, subst}
use Rattle.pblk_model.specs.declared.shape.Shape.{Shape}
use Rattle.pblk_model.specs.Accepted.{IsAccepted}
use Rattle.pblk_model.specs.Geometry.{Geometry, shape_with}
use Rattle.pblk_model.specs.ImageFile.{blank_drive, geometry_at, shape_at}
use Rattle.ocssd_geometry.specs.Numbers.{numbers_of}
use Rattle.ocssd_drive.specs.Drive.{DriveView}
use Rattle.drive_image.proofs.loading.drive_over.Goals as goal

blank_same : (b : List ℕ) (g : Geometry) (sector capacity ring : ℕ) → g ≡ geometry_at b → shape_with g sector capacity ring ≡ shape_at b
    → blank_drive g sector capacity ring ≡ blank_drive (geometry_at b) (shape_at b).sector (shape_at b).capacity (shape_at b).ring
blank_same b g sector capacity ring is same = ap (λ g. blank_drive g sector capacity ring) is
    ∙ ap (λ (s : Shape). blank_drive (geometry_at b) s.sector s.capacity s.ring) same

pub made-requires-clause-geometry : goal.made-requires-clause-geometry
made-requires-clause-geometry c = c.requires.numbers.geometry_is

pub made-requires-clause-accepted : goal.made-requires-clause-accepted
made-requires-clause-accepted c = subst IsAccepted (sym c.requires.numbers.shape) c.requires.numbers.accepted

pub fill-requires-clause-geometry : goal.fill-requires-clause-geometry
fill-requires-clause-geometry c = ap (λ (d : DriveView). numbers_of d.geometry) c.in_ok-drive.ensures.new ∙ c.requires.numbers.geometry

pub fill-requires-clause-blank : goal.fill-requires-clause-blank
fill-requires-clause-blank c = c.in_ok-drive.ensures.blank
    ∙ blank_same c.args.image.now _ _ _ _ c.requires.numbers.geometry c.requires.numbers.shape
