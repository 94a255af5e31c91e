-- A mount that has just begun, by what recovery found.
use Rattle.std.specs.Prelude.{ℕ, ◌≡◌, List, [], ◌∷◌}
use Rattle.pblk_model.specs.declared.found.Found.{Found}
use Rattle.pblk_model.specs.Accepted.{IsAccepted}
use Rattle.pblk_model.specs.Image.{Image, IsFit}
use Rattle.pblk_world.specs.Events.{Begin, Decides, Logged}
use Rattle.pblk_world.specs.World.{Logs}
use Rattle.pblk_world.specs.Lines.{found_image}
use Rattle.world_laws.specs.Finding.{IsFoundOf}
use Rattle.world_laws.specs.MountBeginnings.{beginning_of}

-- the first event of the engine, which names these prefixes
abbrev pub first_event : Found → List ℕ → Logged
first_event f knows = record { event = Decides (Begin (beginning_of f)); knows = knows }

-- The engine has begun with what was found of the image that the event names, and has done nothing
-- else.
pub record HasJustBegun (i : Image) (f : Found) (logs : Logs) : Type 0 where
  pub accepted : IsAccepted i.shape
  pub knows : List ℕ
  pub log : logs 0 ≡ first_event f knows ∷ []
  pub fit : IsFit (found_image i logs)
  pub found : IsFoundOf (found_image i logs) f
