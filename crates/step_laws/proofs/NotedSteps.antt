-- The engine has noted each reset that wasn't stopped: the steps of an engine and of a unit that know
-- all logs keep that.
use Rattle.std.proofs.Common.{◌≡◌, ℕ, true, false, if◌then◌else◌, Some, None, List, [], ◌∷◌, refl, subst, ap}
use Rattle.std.proofs.lemmas.Option.{none-some, same_Some}
use Rattle.pblk_model.specs.declared.shape.Shape.{Shape}
use Rattle.pblk_model.specs.UnitLog.{UnitEvent}
use Rattle.pblk_world.specs.AtRest.{AreResetsNoted}
use Rattle.pblk_world.specs.Commanding.{is_reset, was_stopped}
use Rattle.pblk_world.specs.Events.{EngineEvent, Free, Maker, ResetDone}
use Rattle.pblk_world.specs.World.{World, log_of}
use Rattle.step_laws.specs.FreedWorlds.{freed_world}
use Rattle.step_laws.specs.Whole.{after_reset_noted, after_unit, engine_step, next_event, unit_step}
use Rattle.pblk_model.proofs.Tests.{not_both, same_number}
use Rattle.world_laws.proofs.NotedResets.{noted_kept, noted_reset as reset_with_note}

pub noted_decided : (s : Shape) (e : EngineEvent) (w : World) → AreResetsNoted (log_of w) → AreResetsNoted (log_of (engine_step s e w ∷ w))
noted_decided s e w = noted_kept w (engine_step s e w) (λ x is. absurd (none-some x is))

pub noted_then : (s : Shape) (w : World) (lines : List ℕ) → AreResetsNoted (log_of w) → AreResetsNoted (log_of (freed_world s w lines))
noted_then s w [] noted = noted
noted_then s w (line ∷ lines) noted = noted_decided s (Free line) (freed_world s w lines) (noted_then s w lines noted)

-- a command that is no reset
pub no_reset : (e : UnitEvent) → is_reset e.command ≡ false → is_reset e.command ≡ true → was_stopped e.outcome ≡ true
no_reset e none reset = absurd (not_both (is_reset e.command) reset none)

module _ (s : Shape) (unit : ℕ) (e : UnitEvent) (maker : Maker) (w : World) where
  -- where it is no reset, or is stopped
  pub noted_beside : (is_reset e.command ≡ true → was_stopped e.outcome ≡ true) → AreResetsNoted (log_of w)
      → AreResetsNoted (log_of (after_unit s unit e maker w))
  noted_beside stops = noted_kept w (unit_step s unit e maker w)
      (λ x is. subst (λ (y : UnitEvent). is_reset y.command ≡ true → was_stopped y.outcome ≡ true) (same_Some e x is) stops)

  -- a reset that is noted
  pub noted_reset : AreResetsNoted (log_of w) → AreResetsNoted (log_of (after_reset_noted s unit e maker w))
  noted_reset = reset_with_note w unit (unit_step s unit e maker w)
      (engine_step s (ResetDone unit (next_event w unit)) (after_unit s unit e maker w)) refl refl
      (ap (λ b. if b then Some (next_event w unit) else None) (same_number unit))
