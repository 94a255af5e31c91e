-- Mounts in which nothing is left to be reset and no command of a unit has failed, as far as the
-- engine knows. One may have been stopped.
use Rattle.pblk_model.specs.Image.{Image}
use Rattle.pblk_world.specs.Lines.{known_image}
use Rattle.pblk_world.specs.World.{World, log_of}
use Rattle.pblk_world.specs.LegalMounts.{IsLegalMount, NoStripeLost}
use Rattle.pblk_world.specs.Orders.{AreReset}
use Rattle.core_laws.specs.Spent.{OpensWhenFull}
use Rattle.rest_laws.specs.Tidy.{AreWide}

-- A legal mount in which no stripe was lost and each line was opened once the open ones were full.
-- No line is narrower than the drive, and no reset is left to be made.
pub record IsUntroubled (i : Image) (w : World) : Type 0 where
  pub mount : IsLegalMount i w
  pub none_lost : NoStripeLost (log_of w 0)
  pub full : OpensWhenFull i (log_of w)
  pub wide : AreWide (known_image i (log_of w))
  pub reset : AreReset i (log_of w)
