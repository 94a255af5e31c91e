-- A drive, and what its units are armed with together.
use Rattle.std.specs.Prelude.{ℕ, true, ◌≡◌, ◌==◌, ◌<◌, ◌≤◌, List, map, length, replicate, slice_get, slice_set, Option, Some, None, if◌then◌else◌, nat_lt}
use Rattle.std.specs.List.{AllByRecursion, enumerate_from}
use Rattle.std.specs.Option.{is_some, option_map, option_map_or}
use Rattle.atomic_table.specs.Seated.{TableId}
use Rattle.pblk_model.specs.declared.shape.Shape.{Shape}
use Rattle.pblk_model.specs.Accepted.{IsAccepted}
use Rattle.pblk_model.specs.Chunk.{Chunk}
use Rattle.pblk_model.specs.Shape.{units}
use Rattle.pblk_model.specs.Geometry.{shape_with}
use Rattle.pblk_model.specs.ImageFile as ImageFile
use Rattle.pblk_model.specs.ImageFile.{StoredChunk}
use Rattle.unit_port.specs.declared.armed.FaultPlan.{FaultPlan}
use Rattle.unit_port.specs.declared.armed.Fuse.{Fuse}
use Rattle.unit_port.specs.Armed.{Armed, events_since}
use Rattle.ocssd_geometry.specs.declared.geometry.Geometry.{Geometry}
use Rattle.ocssd_geometry.specs.Numbers.{IsGeometry, numbers_of}
use Rattle.unit_port.specs.declared.armed.CommandKind.TheVariants as kinds
use Rattle.ocssd_drive.specs.Faults.{changes_of}
use Rattle.ocssd_drive.specs.Tally.{IsTally}
use Rattle.ocssd_drive.specs.StopWord.{SeatView, keeper, other_unit}
use Rattle.ocssd_drive.specs.Journal.{FitsArming, word_of}
use Rattle.ocssd_drive.specs.declared.journal.Arming.{Arming}
use Rattle.ocssd_drive.specs.Units.{WornUnit, IsUnitOf, with_arms, with_chunk, with_stored, stored_chunks, new_unit}

-- the numbers of a drive and of the target on it, and the units
pub record DriveView : Type 0 where
  pub geometry : Geometry
  pub sector : ℕ
  pub capacity : ℕ
  pub ring : ℕ
  pub units : List WornUnit

-- its numbers, and those of the target on it
abbrev pub shape_of : DriveView → Shape
shape_of d = shape_with (numbers_of d.geometry) d.sector d.capacity d.ring

-- the drive as it is kept in a file: its numbers, and each unit's chunks with their wear indices
abbrev pub stored : DriveView → ImageFile.Drive
stored d = record {
  geometry = numbers_of d.geometry;
  sector = d.sector;
  capacity = d.capacity;
  ring = d.ring;
  units = map stored_chunks d.units;
}

-- the drive with these units in place of its own
abbrev pub with_units : List WornUnit → DriveView → DriveView
with_units units d = record { geometry = d.geometry; sector = d.sector; capacity = d.capacity; ring = d.ring; units = units }

-- the drive with new units alone
abbrev pub new_drive : Geometry → ℕ → ℕ → ℕ → DriveView
new_drive g sector capacity ring = let s = shape_with (numbers_of g) sector capacity ring in record {
  geometry = g;
  sector = sector;
  capacity = capacity;
  ring = ring;
  units = replicate (units s) (new_unit s);
}

-- the list with one element changed, if it is there
abbrev pub changed_at : {X : Type 0} → (X → X) → ℕ → List X → List X
changed_at change i xs = option_map_or (λ x. slice_set xs i (change x)) (slice_get xs i) xs

-- the drive with this chunk and wear index at a place of a unit
abbrev pub with_restored : ℕ → ℕ → StoredChunk → DriveView → DriveView
with_restored unit chunk k d = with_units (changed_at (with_stored chunk k) unit d.units) d

-- the drive with this chunk at a place of a unit
abbrev pub with_replaced : ℕ → ℕ → Chunk → DriveView → DriveView
with_replaced unit chunk c d = with_units (changed_at (with_chunk chunk c) unit d.units) d

-- the drive in a file with this chunk and wear index at a place of a unit
abbrev pub with_chunk_at : ℕ → ℕ → StoredChunk → ImageFile.Drive → ImageFile.Drive
with_chunk_at unit chunk k d = record {
  geometry = d.geometry;
  sector = d.sector;
  capacity = d.capacity;
  ring = d.ring;
  units = changed_at (λ chunks. slice_set chunks chunk k) unit d.units;
}

-- what every drive is: its geometry and its shape are accepted, and its units fit the shape
pub record IsWhole (d : DriveView) : Type 0 where
  pub geometry_is : IsGeometry d.geometry
  pub accepted : IsAccepted (shape_of d)
  pub count : length d.units ≡ units (shape_of d)
  pub fit : AllByRecursion (IsUnitOf (shape_of d)) d.units

-- a fuse for a unit that the drive doesn't have counts as none
abbrev pub fitting_fuse : ℕ → Option Fuse → Option Fuse
fitting_fuse count None = None
fitting_fuse count (Some f) = if nat_lt f.unit count then Some f else None

-- the seat of the unit with this number, by this fuse at this word
abbrev pub seat_for : Option Fuse → Option TableId → ℕ → Option SeatView
seat_for None word unit = None
seat_for (Some f) word unit = option_map (λ (w : TableId). record { word = w; view = if f.unit == unit then keeper else other_unit }) word

-- a unit by its number, armed with these plans, this fuse and this word
abbrev pub armed_unit : List FaultPlan → Option Fuse → Option TableId → ℕ × WornUnit → WornUnit
armed_unit plans fuse word x = with_arms (record { unit = x.0; plans = plans; fuse = fuse; word = word; since = length x.1.unit.log }) (seat_for fuse word x.0) x.1

abbrev pub armed_units : List FaultPlan → Option Fuse → Option TableId → List WornUnit → List WornUnit
armed_units plans fuse word units = map (armed_unit plans fuse word) (enumerate_from 0 units)

-- the tallies of a unit by these plans
pub record HasTallies (plans : List FaultPlan) (unit : ℕ) (a : Arming) : Type 0 where
  pub programs : IsTally plans unit kinds.Program 0 a.programs
  pub fetches : IsTally plans unit kinds.Fetch 0 a.fetches
  pub resets : IsTally plans unit kinds.Reset 0 a.resets

-- the seat of the fuse's unit, where there is a fuse
abbrev pub IsKeeper : Option Fuse → Option SeatView → Type 0
IsKeeper None None = Unit {0}
IsKeeper None (Some s) = ⊥
IsKeeper (Some f) None = ⊥
IsKeeper (Some f) (Some s) = s.view ≡ keeper

-- the seat of another unit at that word
abbrev pub other_seat_of : Option SeatView → Option SeatView
other_seat_of seat = option_map (λ (s : SeatView). record { word = s.word; view = other_unit }) seat

-- there is a stop word exactly where there is a fuse
abbrev pub HasWord : Option Fuse → Option TableId → Type 0
HasWord fuse word = is_some word ≡ is_some fuse

-- what a unit with this number is to be armed with, by these plans, this fuse and this word
pub record IsArmingOf (plans : List FaultPlan) (fuse : Option Fuse) (word : Option TableId) (unit : ℕ) (a : Arming) : Type 0 where
  pub tallies : HasTallies plans unit a
  pub stop : FitsArming unit fuse a.stop
  pub word_is : word_of a.stop ≡ word
  pub seat : a.stop ≡ seat_for fuse word unit

abbrev pub AreArmings : List FaultPlan → Option Fuse → Option TableId → List Arming → Type 0
AreArmings plans fuse word armings = (i : ℕ) (a : Arming) → slice_get armings i ≡ Some a → IsArmingOf plans fuse word i a

-- this is the unit's number, and it was armed with these plans, this fuse and this word
pub record IsArmedWith (plans : List FaultPlan) (fuse : Option Fuse) (word : Option TableId) (unit : ℕ) (a : Armed) : Type 0 where
  pub number : a.unit ≡ unit
  pub with_plans : a.plans ≡ plans
  pub with_fuse : a.fuse ≡ fuse
  pub with_word : a.word ≡ word

-- the units are those that were armed together, in their order
pub record AreArmedTogether (units : List WornUnit) : Type 0 where
  pub plans : List FaultPlan
  pub fuse : Option Fuse
  pub word : Option TableId
  pub has_word : HasWord fuse word
  pub fits : fuse ≡ fitting_fuse (length units) fuse
  pub each : (i : ℕ) (u : WornUnit) → slice_get units i ≡ Some u → IsArmedWith plans fuse word i u.unit.armed

-- the fuse's unit had as many programs and resets since it was armed as the fuse names
pub record FuseFell (units : List WornUnit) (a : Armed) : Type 0 where
  pub fuse : Fuse
  pub is : a.fuse ≡ Some fuse
  pub unit : WornUnit
  pub there : slice_get units fuse.unit ≡ Some unit
  pub counted : 0 < fuse.nth
  pub fell : fuse.nth ≤ changes_of (events_since unit.unit.armed unit.unit.log)

-- the same seat, which knows no less
pub record KnowsMore (old new : SeatView) : Type 0 where
  pub word : new.word ≡ old.word
  pub fuse : new.view.fuse ≡ old.view.fuse
  pub fell : new.view.fell ≡ old.view.fell
  pub found : old.view.found ≡ true → new.view.found ≡ true
