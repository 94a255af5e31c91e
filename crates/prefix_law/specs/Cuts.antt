-- Cuts of the units of a world: what a stop leaves of them, and of the commands in flight.
use Rattle.std.specs.Prelude.{ℕ, ◌≢◌, ⊤, List, [], ◌∷◌}
use Rattle.std.specs.List.{AllByRecursion}
use Rattle.pblk_model.specs.Image.{Image}
use Rattle.pblk_world.specs.Events.{Step}
use Rattle.pblk_world.specs.World.{World}
use Rattle.pblk_world.specs.Legal.{IsUnitCut}

-- Each of the steps is a cut of a unit of the world, and no two are of one unit. With them the
-- world is `steps ++ w`.
unfoldable pub AreCuts : Image → World → List Step → Type 0
AreCuts i w [] = ⊤
AreCuts i w (step ∷ steps) = ((unit : ℕ) × IsUnitCut i w unit step)
    × AllByRecursion (λ other. other.author ≢ step.author) steps × AreCuts i w steps
