-- Mounts in which nothing was lost, at rest and nearly so.
use Rattle.std.specs.Prelude.{ℕ, ◌+◌, ◌^◌, ◌<◌, ◌≡◌, true, Some, length}
use Rattle.std.specs.List.{Contains}
use Rattle.pblk_model.specs.Image.{Image}
use Rattle.pblk_model.specs.StartRecord.{StartRecord}
use Rattle.pblk_world.specs.AtRest.{IsDue, IsResting, pad_target}
use Rattle.pblk_world.specs.EngineLog.{Begun, Placed, begun, is_answered, openings, placements}
use Rattle.pblk_world.specs.Events.{Stripe}
use Rattle.pblk_world.specs.Fronts.{synced, waiting}
use Rattle.pblk_world.specs.Opening.{MayOpen}
use Rattle.pblk_world.specs.Space.{open_addresses}
use Rattle.pblk_world.specs.Lines.{known_image}
use Rattle.pblk_world.specs.World.{World, log_of}
use Rattle.pblk_world.specs.LegalMounts.{IsLegalMount, NoStripeLost}
use Rattle.core_laws.specs.Spent.{OpensWhenFull}
use Rattle.rest_laws.specs.Tidy.{AreWide}

-- The mount is at rest for a pad target. No stripe was lost, each line was opened once the open
-- ones were full, and no line is narrower than the drive. The next start record could be spelled:
-- its sequence number and its front are not too great.
pub record IsRestingMount (i : Image) (w : World) (asked : ℕ) : Type 0 where
  pub mount : IsLegalMount i w
  pub none_lost : NoStripeLost (log_of w 0)
  pub full : OpensWhenFull i (log_of w)
  pub wide : AreWide (known_image i (log_of w))
  pub resting : IsResting i (log_of w) asked
  pub beginning : Begun
  pub begins : begun (log_of w 0) ≡ Some beginning
  pub seq_number : beginning.beginning.seq + length (openings (log_of w 0)) < 2 ^ 61
  pub front_number : synced i.shape (log_of w 0) < 2 ^ 61

-- In such a mount no stripe is under way, none is to be placed for a pad target, and no line is to be
-- opened. A chunk may be left to be reset, and a sector to be copied.
pub record IsStillMount (i : Image) (w : World) (asked : ℕ) : Type 0 where
  pub mount : IsLegalMount i w
  pub none_lost : NoStripeLost (log_of w 0)
  pub full : OpensWhenFull i (log_of w)
  pub wide : AreWide (known_image i (log_of w))
  pub stripes : (p : Placed) → Contains (placements (log_of w 0)) p → is_answered (log_of w 0) p ≡ true
  pub no_program : (stripe : Stripe) → ¬ IsDue i (log_of w) (pad_target i (log_of w) asked) stripe
  pub no_opening : (beginning : Begun) (line : ℕ) (start : StartRecord) → begun (log_of w 0) ≡ Some beginning
      → 0 < length (waiting i.shape (log_of w 0)) → open_addresses i (log_of w) ≡ 0
      → ¬ MayOpen i (log_of w) beginning line start
  pub beginning : Begun
  pub begins : begun (log_of w 0) ≡ Some beginning
  pub seq_number : beginning.beginning.seq + length (openings (log_of w 0)) < 2 ^ 61
  pub front_number : synced i.shape (log_of w 0) < 2 ^ 61
