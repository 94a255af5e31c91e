-- What becomes of the units of a drive that is made ready, and what is found of them.
use Rattle.std.specs.Prelude.{◌≡◌, ◌⊎◌, List, Result, Ok, Err}
use Rattle.std.specs.List.{AllByRecursion}
use Rattle.pblk_model.specs.declared.shape.Shape.{Shape}
use Rattle.pblk_model.specs.declared.found.Found.{Found}
use Rattle.pblk_model.specs.Contents.{contents, end}
use Rattle.pblk_model.specs.Image.{Image}
use Rattle.pblk_model.specs.Sealed.{IsSealed}
use Rattle.unit_port.specs.Unit.{ModelUnit}
use Rattle.unit_port.specs.Commands.{EventAt, AreKept, AreNext, after_all}
use Rattle.world_laws.specs.Finding.{IsFoundOf, NoneOpen}
use Rattle.scan_recovery.specs.declared.error.ScanErr.{ScanErr}
use Rattle.scan_recovery.specs.declared.error.ScanErr.TheVariants as errors
use Rattle.scan_recovery.specs.Fetches.{IsFetch}
use Rattle.scan_recovery.specs.DriveFaults.{IsDriveFaultAt, NoDriveFaults}
use Rattle.scan_recovery.specs.Pads.{ArePads}
use Rattle.scan_recovery.specs.Units.{image_of}

-- The units of a drive did programs of Pad blocks in its Open chunks, and then fetches of written
-- blocks.
pub record WereReadied (s : Shape) (old new : List ModelUnit) : Type 0 where
  pub pads : List EventAt
  pub padded : ArePads s old pads
  pub fetches : List EventAt
  pub fetched : AllByRecursion (IsFetch (image_of s (after_all old pads))) fetches
  pub next : AreNext (after_all old pads) fetches
  pub units : new ≡ after_all (after_all old pads) fetches

-- what a sealed image holds the other one holds
pub record HoldsSame (i j : Image) : Type 0 where
  pub is_sealed : IsSealed i → IsSealed j
  pub contents_are : IsSealed i → contents j ≡ contents i
  pub end_is : IsSealed i → end j ≡ end i

-- The units of a drive are handed back: what they did was padding and scanning.
pub record AreHandedBack (s : Shape) (old new : List ModelUnit) : Type 0 where
  pub readied : WereReadied s old new
  pub kept : AreKept old new
  pub holds : HoldsSame (image_of s old) (image_of s new)

-- Nothing was done, or no chunk is Open any more.
abbrev pub IsUntouchedOrPadded : Shape → List ModelUnit → List ModelUnit → Type 0
IsUntouchedOrPadded s old new = (new ≡ old) ⊎ NoneOpen (image_of s new)

-- The drive was padded and scanned, and this was found.
pub record IsFoundAfter (s : Shape) (old new : List ModelUnit) (found : Found) : Type 0 where
  pub units : AreHandedBack s old new
  pub closed : NoneOpen (image_of s new)
  pub found_is : IsFoundOf (image_of s new) found

-- Why a drive couldn't be made ready: the last event of this unit was a command that was stopped,
-- or a fetch that failed. Where the call answers anything else, none was.
abbrev pub ReadyCause : List ModelUnit → List ModelUnit → Result Found ScanErr → Type 0
ReadyCause old new (Ok found) = NoDriveFaults old new
ReadyCause old new (Err (errors.Drive unit event)) = IsDriveFaultAt old new unit event
ReadyCause old new (Err errors.Memory) = NoDriveFaults old new
