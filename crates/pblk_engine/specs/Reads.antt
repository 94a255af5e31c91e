-- Reads of sectors: what a look under the engine's lock gives, and what is fetched by it.
use Rattle.std.specs.Prelude.{ℕ, ◌≡◌, ◌+◌, ◌*◌, ◌<◌, ◌≤◌, List, length, slice_get, slice_range, Option, None, Some, Result, Ok, Err}
use Rattle.pblk_model.specs.declared.run.Front.{Front}
use Rattle.pblk_model.specs.declared.shape.Shape.{Shape}
use Rattle.pblk_model.specs.Accepted.{IsAccepted}
use Rattle.pblk_model.specs.ChunkStep.{Read}
use Rattle.pblk_model.specs.Image.{Image}
use Rattle.pblk_model.specs.Shape.{units}
use Rattle.pblk_world.specs.World.{Logs}
use Rattle.step_laws.specs.LookedUp.{IsLookedUp}
use Rattle.unit_port.specs.Unit.{ModelUnit}
use Rattle.chronicle.specs.Views.{Past}
use Rattle.chronicle.specs.Prefixes.{Prefixes, logs_of, AreLegalLogs, ArePrefixes}
use Rattle.pblk_engine.specs.Looks.{front_taken, latest_by}
use Rattle.pblk_engine.specs.Pumps.{GoesOn, IsFaultOf, NoFaults}
use Rattle.pblk_engine.specs.Workers.{Made, WorkerView}
use Rattle.pblk_engine.specs.declared.errors.DriveErr.{DriveErr}
use Rattle.pblk_engine.specs.declared.sector_looks.RunLook.{RunLook}
use Rattle.pblk_engine.specs.declared.sector_looks.SectorPlace.{SectorPlace}

-- So many bytes are those of 1 to 16 sectors, of which the first has this number. All are below the
-- capacity.
pub record IsRun (s : Shape) (lba len : ℕ) : Type 0 where
  pub count : ℕ
  pub some : 1 ≤ count
  pub few : count ≤ 16
  pub whole : len ≡ count * s.sector
  pub inside : lba + count ≤ s.capacity

-- the bytes of a sector among those of several
abbrev pub part_at : ℕ → ℕ → List ℕ → List ℕ
part_at size k bytes = slice_range bytes (k * size) (k * size + size)

-- ---- what a look gives

-- by these logs this is the sector's latest content
abbrev pub IsLatest : Image → Logs → ℕ → List ℕ → Type 0
IsLatest i logs lba bytes = slice_get (latest_by i logs) lba ≡ Some bytes

-- By these logs the sector is on the drive, at this place.
pub record IsPlaceOf (i : Image) (logs : Logs) (lba : ℕ) (p : SectorPlace) : Type 0 where
  pub of : p.sought.lba ≡ lba
  pub at : ℕ
  pub look : IsLookedUp i logs lba p.sought.line at p.sought.position p.unit p.sought.block
  pub inside : lba < i.shape.capacity
  pub unit : p.unit < units i.shape
  pub line : p.sought.line < i.shape.chunks

-- By these logs the sector is at this place; or, where there is none, this is its latest content.
abbrev pub IsLookedFor : Image → Logs → ℕ → Option SectorPlace → List ℕ → Type 0
IsLookedFor i logs lba None bytes = IsLatest i logs lba bytes
IsLookedFor i logs lba (Some p) bytes = IsPlaceOf i logs lba p

-- Of the sectors of a run, those from the one and below the other were looked for.
abbrev pub AreLookedFor : Image → Logs → ℕ → ℕ → ℕ → ℕ → List (Option SectorPlace) → List ℕ → Type 0
AreLookedFor i logs size lba from to places out =
    (k : ℕ) (place : Option SectorPlace) → from ≤ k → k < to → slice_get places k ≡ Some place
    → IsLookedFor i logs (lba + k) place (part_at size k out)

-- The sectors of a run below this one have their latest content by these logs.
abbrev pub AreLatest : Image → Logs → ℕ → ℕ → ℕ → List ℕ → Type 0
AreLatest i logs size lba to out = (k : ℕ) → k < to → IsLatest i logs (lba + k) (part_at size k out)

-- A look at all sectors of a run by these logs.
pub record IsRunLook (i : Image) (logs : Logs) (lba : ℕ) (out : List ℕ) (look : RunLook) : Type 0 where
  pub accepted : IsAccepted i.shape
  pub front : look.front ≡ front_taken (logs 0)
  pub size : look.size ≡ i.shape.sector
  pub whole : length out ≡ look.count * look.size
  pub few : look.count ≤ 16
  pub places : length look.places ≡ 16
  pub each : AreLookedFor i logs look.size lba 0 look.count look.places out

-- These logs were known at a look in a call, in which a worker came to know so much.
pub record WasLook (past : Past) (old looked new : Prefixes) : Type 0 where
  pub legal : AreLegalLogs past.image looked
  pub begun : ArePrefixes past.logs looked
  pub since : ArePrefixes old looked
  pub within : ArePrefixes looked new

-- A worker looked at a run of sectors, and nothing else.
pub record HasLooked (past : Past) (old new : WorkerView) (seen lba : ℕ) (out : List ℕ) (look : RunLook) : Type 0 where
  pub worker : new ≡ record old { known = new.known }
  pub looked : WasLook past old.known new.known new.known
  pub run : IsRunLook past.image (logs_of new.known) lba out look
  pub seen_then : seen ≤ look.front.position

-- ---- what is fetched

-- a worker went on, and none of its commands was lost
pub record WentWell (old new : WorkerView) : Type 0 where
  pub more : List Made
  pub on : GoesOn old new more
  pub none : NoFaults more

-- The last of these commands was lost, and the error names it. It was the fetch of this block.
pub record IsLostFetch (handed : List ModelUnit) (unit line block : ℕ) (more : List Made) (e : DriveErr) : Type 0 where
  pub fault : IsFaultOf handed more e
  pub of_unit : fault.last.unit ≡ unit
  pub chunk : fault.last.event.chunk ≡ line
  pub command : fault.last.event.command ≡ Read block

-- what became of a fetch, with the commands that the worker made
abbrev pub TellsPlace : {A : Type 0} → List ModelUnit → SectorPlace → List Made → Result A DriveErr → Type 0
TellsPlace handed p more (Ok is) = NoFaults more
TellsPlace handed p more (Err e) = IsLostFetch handed p.unit p.sought.line p.sought.block more e

pub record HasFetchedPlace {A : Type 0} (handed : List ModelUnit) (p : SectorPlace) (old new : WorkerView) (result : Result A DriveErr) : Type 0 where
  pub more : List Made
  pub on : GoesOn old new more
  pub tells : TellsPlace handed p more result

-- A fetch was lost, of a block to which the look led for one of the sectors.
pub record IsLostOfRun (past : Past) (handed : List ModelUnit) (looked : Prefixes) (lba : ℕ) (look : RunLook) (more : List Made) (e : DriveErr) : Type 0 where
  pub k : ℕ
  pub below : k < look.count
  pub place : SectorPlace
  pub is : IsPlaceOf past.image (logs_of looked) (lba + k) place
  pub lost : IsLostFetch handed place.unit place.sought.line place.sought.block more e

-- What became of the fetches of a run, by a look at these logs, with the commands that the worker
-- made: none was lost; or one was, which fetched a block to which the look led for one of the
-- sectors.
abbrev pub TellsRun : {A : Type 0} → Past → List ModelUnit → Prefixes → ℕ → RunLook → (A → Type 0) → List Made → Result A DriveErr → Type 0
TellsRun past handed looked lba look Tells more (Ok is) = NoFaults more × Tells is
TellsRun past handed looked lba look Tells more (Err e) = IsLostOfRun past handed looked lba look more e

pub record HasFetchedRun {A : Type 0} (past : Past) (handed : List ModelUnit) (old new : WorkerView) (looked : Prefixes) (lba : ℕ) (look : RunLook)
    (Tells : A → Type 0) (result : Result A DriveErr) : Type 0 where
  pub more : List Made
  pub on : GoesOn old new more
  pub tells : TellsRun past handed looked lba look Tells more result

-- The last of these commands was lost, and the error names it. It was the fetch of a block to which
-- a look in the call led, for one of the sectors of the run.
pub record IsFaultOfRead (past : Past) (handed : List ModelUnit) (lba len : ℕ) (old new : Prefixes) (more : List Made) (e : DriveErr) : Type 0 where
  pub looked : Prefixes
  pub look : WasLook past old looked new
  pub k : ℕ
  pub inside : k * past.image.shape.sector < len
  pub line : ℕ
  pub at : ℕ
  pub position : ℕ
  pub unit : ℕ
  pub block : ℕ
  pub led : IsLookedUp past.image (logs_of looked) (lba + k) line at position unit block
  pub lost : IsLostFetch handed unit line block more e

-- At a look in the call all was taken that had been seen, and this was the front taken. Each sector
-- of the run has the content that was its latest then.
pub record HasReadAt (past : Past) (old new : Prefixes) (seen lba : ℕ) (out : List ℕ) (front : Front) : Type 0 where
  pub looked : Prefixes
  pub look : WasLook past old looked new
  pub front_then : front ≡ front_taken (logs_of looked 0)
  pub seen_then : seen ≤ front.position
  pub each : (k : ℕ) → k * past.image.shape.sector < length out
      → IsLatest past.image (logs_of looked) (lba + k) (part_at past.image.shape.sector k out)

-- what a read answers, with the commands that its worker made in it
abbrev pub TellsRead : Past → List ModelUnit → ℕ → ℕ → List ℕ → Prefixes → Prefixes → List Made → Result Front DriveErr → Type 0
TellsRead past handed seen lba out old new more (Ok front) = NoFaults more × HasReadAt past old new seen lba out front
TellsRead past handed seen lba out old new more (Err e) = IsFaultOfRead past handed lba (length out) old new more e

-- A read, with its answer.
pub record HasRead (past : Past) (handed : List ModelUnit) (old new : WorkerView) (seen lba : ℕ) (out : List ℕ) (result : Result Front DriveErr) : Type 0 where
  pub more : List Made
  pub on : GoesOn old new more
  pub tells : TellsRead past handed seen lba out old.known new.known more result
