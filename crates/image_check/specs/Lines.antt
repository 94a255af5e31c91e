-- Lines of a drive.
use Rattle.std.specs.Prelude.{ℕ, ◌≡◌, ◌<◌, ◌^◌}
use Rattle.pblk_model.specs.Image.{Image, line_units}
use Rattle.pblk_model.specs.ImageFile as file
use Rattle.pblk_model.specs.Shape.{units}
use Rattle.pblk_layout.specs.Online.{units_in}
use Rattle.ocssd_drive.specs.Drive.{IsWhole, shape_of, stored}
use Rattle.image_check.specs.declared.line.Line.TheInside.{Inside}

-- a line of an image, by its number
pub record LineView : Type 0 where
  pub image : Image
  pub number : ℕ

abbrev pub line_view : Inside → LineView
line_view l = record { image = file.image_of (stored l.drive.now); number = l.number }

-- the bits are those of the line's online units
pub record HasOnline (i : Image) (line online : ℕ) : Type 0 where
  pub are : units_in online ≡ line_units i line
  pub below : online < 2 ^ units i.shape

-- it is one of the drive's lines, and its online units are noted
pub record IsLine (l : Inside) : Type 0 where
  pub whole : IsWhole l.drive.now
  pub layout : l.layout ≡ shape_of l.drive.now
  pub number : l.number < (shape_of l.drive.now).chunks
  pub online : HasOnline (file.image_of (stored l.drive.now)) l.number l.online
