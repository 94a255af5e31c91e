-- What the engine knows by the prefixes that its next event names, beside the whole logs.
use Rattle.std.specs.Prelude.{◌≡◌}
use Rattle.pblk_model.specs.Image.{Image}
use Rattle.pblk_world.specs.World.{Logs}
use Rattle.pblk_world.specs.Lines.{found_image, known_image}

-- the same log of the engine, and the same images
pub record AreKnown (i : Image) (logs known : Logs) : Type 0 where
  pub own : known 0 ≡ logs 0
  pub found : found_image i known ≡ found_image i logs
  pub image : known_image i known ≡ known_image i logs
