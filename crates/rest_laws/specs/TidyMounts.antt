-- Mounts over tidy images in which nothing fails, and the room that they have.
use Rattle.std.specs.Prelude.{ℕ, ◌+◌, ◌^◌, ◌<◌, ◌≤◌, ◌≡◌, ◌≢◌, List, take, length, Some}
use Rattle.pblk_model.specs.declared.shape.Shape.{Shape}
use Rattle.pblk_model.specs.Image.{Image}
use Rattle.pblk_model.specs.UnitLog.{UnitEvent, Failed}
use Rattle.pblk_world.specs.AtRest.{logs_at}
use Rattle.pblk_world.specs.EngineLog.{Begun, begun, openings}
use Rattle.pblk_world.specs.Events.{Logged}
use Rattle.pblk_world.specs.Fronts.{synced, waiting}
use Rattle.pblk_world.specs.Space.{addresses}
use Rattle.pblk_world.specs.World.{World, Logs, log_of, unit_event_at}
use Rattle.pblk_world.specs.LegalMounts.{IsLegalMount}
use Rattle.pblk_world.specs.Orders.{AreOpenedFull, AreReset}
use Rattle.rest_laws.specs.Tidy.{IsFaultless, IsFoundFaultless, IsTidy}

-- At each length of the engine's log, once the mount has begun, at which no reset is left to be
-- made, fewer entries wait than data addresses are left.
pub record HasRoom (i : Image) (logs : Logs) : Type 0 where
  pub each : (n : ℕ) → 0 < n → n ≤ length (logs 0) → AreReset i (logs_at n logs)
      → length (waiting i.shape (take n (logs 0))) < addresses i (logs_at n logs)

-- The next start record could be spelled: its sequence number and its front are not too great.
pub record HasNumbersLeft (s : Shape) (log : List Logged) : Type 0 where
  pub beginning : Begun
  pub begins : begun log ≡ Some beginning
  pub seq_number : beginning.beginning.seq + length (openings log) < 2 ^ 61
  pub front_number : synced s log < 2 ^ 61

-- A legal mount over a tidy image. No event of a unit failed that the mount found or that the
-- engine's log names. Each line was opened where no open line had an address left.
pub record IsTidyMount (i : Image) (w : World) : Type 0 where
  pub mount : IsLegalMount i w
  pub tidy : IsTidy i
  pub found_faultless : IsFoundFaultless (log_of w)
  pub faultless : IsFaultless (log_of w)
  pub full : AreOpenedFull i (log_of w)

-- No event of any unit failed.
pub record HasNoFailures (logs : Logs) : Type 0 where
  pub none_failed : (unit number landed_before : ℕ) (e : UnitEvent)
      → unit_event_at logs unit number ≡ Some e → e.outcome ≢ Failed landed_before
