-- The mounts whose units did all that they were told to.
use Rattle.std.specs.Prelude.{ℕ, ◌≡◌, Bool, true, false, List}
use Rattle.std.specs.List.{AllByRecursion}
use Rattle.pblk_model.specs.Image.{Image}
use Rattle.pblk_model.specs.UnitLog.{UnitEvent, UnitOutcome, Answered, Failed, Stopped}
use Rattle.pblk_world.specs.World.{World, log_of, unit_events}
use Rattle.pblk_world.specs.LegalMounts.{IsLegalMount, NoStripeLost}

-- a unit answered the command
abbrev pub is_answered : UnitOutcome → Bool
is_answered (Answered answer) = true
is_answered (Failed k) = false
is_answered (Stopped k) = false

abbrev pub AreAnswered : List UnitEvent → Type 0
AreAnswered events = AllByRecursion (λ e. is_answered e.outcome ≡ true) events

-- A legal mount in which the engine heard of no lost stripe, and no unit failed or stopped: what
-- units that are armed with nothing do.
pub record IsFaultlessMount (i : Image) (w : World) : Type 0 where
  pub mount : IsLegalMount i w
  pub none_lost : NoStripeLost (log_of w 0)
  pub answered : (unit : ℕ) → AreAnswered (unit_events (log_of w) unit)
