-- The chunks of a drive as an image.
use Rattle.std.specs.Prelude.{◌^◌, ◌<◌, map}
use Rattle.std.specs.List.{AllByRecursion}
use Rattle.pblk_model.specs.Accepted.{IsAccepted}
use Rattle.pblk_model.specs.Image.{Image, line_units}
use Rattle.pblk_model.specs.Shape.{units}
use Rattle.pblk_layout.specs.Online.{units_in}
use Rattle.scan_recovery.specs.declared.media.Media.TheInside.{Inside}
use Rattle.scan_recovery.specs.Units.{AreFit, image_of}
use Rattle.pblk_model.specs.Tables.{IsTable}

-- the image that they are
abbrev pub media_image : Inside → Image
media_image m = image_of m.layout (map (λ u. u.unit) m.units.now)

-- they are those of a drive of their shape, and the online units of each line are noted
pub record IsMedia (m : Inside) : Type 0 where
  pub accepted : IsAccepted m.layout
  pub fit : AreFit m.layout (map (λ u. u.unit) m.units.now)
  pub online : IsTable m.layout.chunks (line_units (media_image m)) (map units_in m.online.items)
  pub below : AllByRecursion (λ live. live < 2 ^ units m.layout) m.online.items
