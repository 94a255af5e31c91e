-- How a target is opened on the units of a drive: what it asks for, and what a refused opening
-- leaves.
use Rattle.std.specs.Prelude.{ℕ, ◌≡◌, List, [], slice_get, Some}
use Rattle.pblk_model.specs.Accepted.{IsAccepted}
use Rattle.pblk_model.specs.declared.shape.Shape.{Shape}
use Rattle.pblk_world.specs.World.{World, log_of}
use Rattle.pblk_world.specs.LegalMounts.{IsLegalMount}
use Rattle.unit_port.specs.Unit.{ModelUnit}
use Rattle.scan_recovery.specs.Units.{AreFit, image_of}
use Rattle.scan_recovery.specs.Readying.{AreHandedBack}
use Rattle.scan_recovery.specs.declared.error.ScanErr.{ScanErr}
use Rattle.scan_recovery.specs.declared.error.ScanErr.TheVariants as scan
use Rattle.step_laws.specs.Opened.{AreArmed, after_units, new_events}
use Rattle.pblk_engine.specs.Arms.{IsArm}
use Rattle.scan_recovery.specs.DriveFaults.{IsDriveFaultAt, NoDriveFaults}
use Rattle.block_target.specs.declared.opening.OpenErr.{OpenErr}
use Rattle.block_target.specs.declared.opening.OpenErr.TheVariants.{Drive, Memory}

abbrev pub open_error : ScanErr → OpenErr
open_error (scan.Drive unit event) = Drive unit event
open_error scan.Memory = Memory

-- Why no target was opened: the last event of this unit was a stopped command, or a fetch that
-- failed. Where there wasn't the memory, no command was stopped and no fetch failed.
abbrev pub OpenCause : OpenErr → List ModelUnit → List ModelUnit → Type 0
OpenCause (Drive unit event) old new = IsDriveFaultAt old new unit event
OpenCause Memory old new = NoDriveFaults old new

-- What opening a target on the units of a drive asks for.
pub record CanOpen (s : Shape) (us : List ModelUnit) : Type 0 where
  -- the drive's shape is accepted
  pub accepted : IsAccepted s
  -- there are as many units as it has, and each is a unit of it
  pub fit : AreFit s us
  -- each unit is armed with nothing, or was armed no later than now
  pub armed : AreArmed us

-- What an opening that is refused leaves, by the units and their wear before and then, and by why
-- it was refused.
pub record IsRefusedOpening (s : Shape) (old : List ModelUnit) (was : List (List ℕ)) (new : List ModelUnit) (now : List (List ℕ)) (why : OpenErr) : Type 0 where
  -- the units are handed back: what a sealed drive held it holds still
  pub handed_back : AreHandedBack s old new
  -- no chunk's wear level index has changed
  pub wear : now ≡ was
  -- a command was stopped or a fetch failed, which the error names; or there wasn't the memory
  pub cause : OpenCause why old new

-- the world of what units did before a mount began
abbrev pub readied_world : Shape → List ModelUnit → List ModelUnit → World
readied_world s old new = after_units s 0 [] (new_events old new)

-- That is a legal mount in which the engine did nothing, and the units are as it leaves them.
pub record AreReadied (s : Shape) (old new : List ModelUnit) : Type 0 where
  pub legal : IsLegalMount (image_of s old) (readied_world s old new)
  pub none : log_of (readied_world s old new) 0 ≡ []
  pub each : (number : ℕ) (u : ModelUnit) → slice_get new number ≡ Some u
      → (was : ModelUnit) × (slice_get old number ≡ Some was)
      × IsArm (image_of s old) (log_of (readied_world s old new)) number was u
