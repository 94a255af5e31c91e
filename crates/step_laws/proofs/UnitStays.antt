-- What a step of a unit leaves as it was: it makes the logs longer by what no event of the engine
-- names.
use Rattle.std.proofs.Common.{◌≡◌, ℕ, ◌∷◌, []}
use Rattle.pblk_model.specs.Image.{Image}
use Rattle.pblk_model.specs.UnitLog.{UnitEvent}
use Rattle.pblk_world.specs.Events.{Maker, Step}
use Rattle.pblk_world.specs.World.{World, Logs, log_of}
use Rattle.pblk_world.specs.Lines.{known_image}
use Rattle.pblk_world.specs.Legal.{IsLegal}
use Rattle.world_laws.specs.SameTold.{AreSameNamed, AreSameTold}
use Rattle.world_laws.proofs.GrownLogs.{grown_later, named_grown}
use Rattle.world_laws.proofs.ToldImages.{image_same}
use Rattle.world_laws.proofs.ToldSince.{same_told}
use Rattle.step_laws.specs.Whole.{unit_step}
use Rattle.step_laws.proofs.UnitSteps.{engine_log}

module _ (i : Image) (w : World) (unit : ℕ) (e : UnitEvent) (maker : Maker) where
  abbrev step : Step
  step = unit_step i.shape unit e maker w

  abbrev after_ : Logs
  after_ = log_of (step ∷ w)

  pub named_stays : IsLegal i w → AreSameNamed (log_of w) after_
  named_stays legal = named_grown i w after_ legal (grown_later (step ∷ []) w (engine_log i.shape unit e maker w))

  pub told_stays : IsLegal i w → AreSameTold i (log_of w) after_
  told_stays legal = same_told i w after_ legal (named_stays legal)

  pub known_stays : IsLegal i w → known_image i after_ ≡ known_image i (log_of w)
  known_stays legal = image_same i (log_of w) after_ (told_stays legal)
