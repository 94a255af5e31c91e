-- The images that the program takes: their shape is accepted, and they have no more units than it says.
use Rattle.std.specs.Prelude.{◌≤◌, length}
use Rattle.pblk_model.specs.Accepted.{IsAccepted}
use Rattle.pblk_model.specs.Shape.{units}
use Rattle.pblk_model.specs.Image.{Image}

pub record IsOfAcceptedShape (i : Image) : Type 0 where
  pub shape : IsAccepted i.shape
  pub units : length i.units ≤ units i.shape
