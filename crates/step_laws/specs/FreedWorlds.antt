-- Lines that the engine frees, one after another. A list of them begins with the one freed last.
use Rattle.std.specs.Prelude.{ℕ, ⊤, List, [], ◌∷◌}
use Rattle.pblk_model.specs.declared.shape.Shape.{Shape}
use Rattle.pblk_model.specs.Image.{Image}
use Rattle.pblk_world.specs.Events.{Free}
use Rattle.pblk_world.specs.Freeing.{MayFree}
use Rattle.pblk_world.specs.World.{World, log_of}
use Rattle.step_laws.specs.Whole.{engine_step}

-- the world once these were freed
abbrev pub freed_world : Shape → World → List ℕ → World
freed_world s w [] = w
freed_world s w (line ∷ lines) = engine_step s (Free line) (freed_world s w lines) ∷ freed_world s w lines

-- each might be freed then
abbrev pub MightFree : Image → World → List ℕ → Type 0
MightFree i w [] = ⊤
MightFree i w (line ∷ lines) = MayFree i (log_of (freed_world i.shape w lines)) line × MightFree i w lines
