-- A world in which the engine freed lines, one after another.
use Rattle.std.proofs.Common.{◌≡◌, ℕ, Some, List, [], ◌∷◌, ◌++◌, refl, ap, ◌∙◌}
use Rattle.pblk_model.specs.declared.shape.Shape.{Shape}
use Rattle.pblk_model.specs.Image.{Image}
use Rattle.pblk_world.specs.EngineLog.{Begun, begun}
use Rattle.pblk_world.specs.Events.{Free}
use Rattle.pblk_world.specs.Space.{room}
use Rattle.pblk_world.specs.World.{World, log_of}
use Rattle.pblk_world.specs.LegalMounts.{IsLegalMount}
use Rattle.core_laws.proofs.FreedLines.{room_freed}
use Rattle.step_laws.specs.FreedWorlds.{MightFree, freed_world}
use Rattle.step_laws.specs.Whole.{IsLevel, engine_step, knows_all}
use Rattle.step_laws.proofs.EngineSteps.{begun_still, decided_legal, engine_logs}
use Rattle.step_laws.proofs.Levels.{level_by}

pub later_then : (s : Shape) (w : World) (lines : List ℕ) → (later : World) × (freed_world s w lines ≡ later ++ w)
later_then s w [] = ([], refl)
later_then s w (line ∷ lines) =
    let is = later_then s w lines in
    let step = engine_step s (Free line) (freed_world s w lines) in
    (step ∷ is.0, ap (λ (x : World). step ∷ x) is.1)

module _ (i : Image) (w : World) (b : Begun) (begins : begun (log_of w 0) ≡ Some b) where
  abbrev then_ : List ℕ → World
  then_ lines = freed_world i.shape w lines

  pub begun_then : (lines : List ℕ) → begun (log_of (freed_world i.shape w lines) 0) ≡ Some b
  begun_then [] = begins
  begun_then (line ∷ lines) = begun_still i.shape (Free line) (then_ lines) b (begun_then lines)

  pub legal_then : IsLegalMount i w → (lines : List ℕ) → MightFree i w lines → IsLegalMount i (freed_world i.shape w lines)
  legal_then mount [] might = mount
  legal_then mount (line ∷ lines) might = decided_legal i (then_ lines) (Free line) (legal_then mount lines might.1) (b, begun_then lines, might.0)

  -- as much room is left
  pub room_then : IsLegalMount i w → (lines : List ℕ) → MightFree i w lines → room i (log_of (freed_world i.shape w lines)) ≡ room i (log_of w)
  room_then mount [] might = refl
  room_then mount (line ∷ lines) might =
      ap (room i) (engine_logs i.shape (Free line) (then_ lines))
      ∙ room_freed i (then_ lines) (legal_then mount lines might.1) line (knows_all i.shape (then_ lines)) might.0.over b (begun_then lines)
      might.0.seq might.0.has_seq
      ∙ room_then mount lines might.1

pub level_then : (s : Shape) (w : World) (lines : List ℕ) → IsLevel w → IsLevel (freed_world s w lines)
level_then s w [] level = level
level_then s w (line ∷ lines) level = level_by s (Free line) (freed_world s w lines) (λ unit. refl) (level_then s w lines level)
