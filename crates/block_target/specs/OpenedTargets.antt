-- A drive on which a mount has begun: which mount it is, and what it is made of.
use Rattle.std.specs.Prelude.{ℕ, ◌+◌, ◌*◌, ◌≡◌, ◌≤◌, List, [], ◌∷◌, map, slice_index_or}
use Rattle.std.specs.List.{range_with_len}
use Rattle.atomic_table.specs.Seated.{TableId}
use Rattle.pblk_model.specs.Frames.{count_out}
use Rattle.pblk_model.specs.Shape.{units}
use Rattle.pblk_model.specs.declared.found.Found.{Found}
use Rattle.pblk_model.specs.declared.shape.Shape.{Shape}
use Rattle.scan_recovery.specs.Readying.{IsFoundAfter}
use Rattle.unit_port.specs.Unit.{ModelUnit}
use Rattle.write_ring.specs.Handles.{ring_key}
use Rattle.write_ring.specs.declared.view.Key.{Key}
use Rattle.chronicle.specs.Handles.{first_author, first_token}
use Rattle.chronicle.specs.Views.{Past}
use Rattle.pblk_engine.specs.Beginnings.{IsFirstCore, opened_past}
use Rattle.block_target.specs.MountFrames.{AreFrames}
use Rattle.block_target.specs.Opened.{CanOpen}
use Rattle.block_target.specs.Rooms.{AreRooms}
use Rattle.block_target.specs.declared.opened.FirstLogs.{FirstLogs}
use Rattle.block_target.specs.declared.opened.Parts.{Parts}
use Rattle.block_target.specs.declared.opened.Works.{Works}

-- the units as they were handed in: the one row of a list
abbrev pub drive_before : List (List ModelUnit) → List ModelUnit
drive_before rows = slice_index_or rows 0 []

-- What contracts see of an opened drive: what a mount of it has to name, which are the chronicle
-- and what that began with, the table and the key of the write ring, and the units with their wear
-- as they were handed in. Besides the units as they are, and for how many sessions and lanes it was
-- opened.
pub record OpenedView : Type 0 where
  pub chronicle : TableId
  pub past : Past
  pub ring : TableId
  pub key : Key
  pub handed : List ModelUnit
  pub wear : List (List ℕ)
  pub units : List ModelUnit
  pub sessions : ℕ
  pub lanes : ℕ

abbrev pub opened_view : List ModelUnit → List (List ℕ) → Parts → OpenedView
opened_view now worn p = record {
  chronicle = p.logs.chronicle;
  past = p.logs.token.past;
  ring = p.works.frames.ring.table.shared.table_id;
  key = ring_key p.works.frames.ring;
  handed = drive_before p.handed;
  wear = worn;
  units = now;
  sessions = p.sessions;
  lanes = p.lanes;
}

-- the authors in the order of their numbers, and the token, of a chronicle that began with this
pub record AreFirstLogs (s : Shape) (past : Past) (l : FirstLogs) : Type 0 where
  pub authors : l.authors.items ≡ map (first_author l.chronicle past) (range_with_len 0 (units s + 1))
  pub token : l.token ≡ first_token l.chronicle past

-- The core and the ring begin with what was found. All frames of the pool are out.
pub record AreWorks (s : Shape) (f : Found) (sessions : ℕ) (w : Works) : Type 0 where
  pub frames : AreFrames s f.end sessions w.pool.region w.frames
  pub out : count_out w.pool.left ≡ s.ring + 1 + 16 * sessions
  pub core : IsFirstCore s f w.core

-- Nothing was done with them yet: the window of the core is empty.
pub record AreUnused (w : Works) : Type 0 where
  pub shape : Shape
  pub found : Found
  pub sessions : ℕ
  pub works : AreWorks shape found sessions w
  pub empty : w.core.window.entries ≡ []

-- What a mount is made of that began with what was found on units which were handed in like this
-- and are now like that.
pub record AreParts (s : Shape) (old new : List ModelUnit) (sessions lanes : ℕ) (p : Parts) : Type 0 where
  pub opens : CanOpen s old
  pub found : Found
  pub is : IsFoundAfter s old new found
  pub shape : p.shape ≡ s
  pub handed : p.handed ≡ old ∷ []
  pub logs : AreFirstLogs s (opened_past s old new found) p.logs
  pub rooms : AreRooms s sessions lanes p.rooms
  pub works : AreWorks s found sessions p.works
  pub sessions_are : p.sessions ≡ sessions
  pub lanes_are : p.lanes ≡ lanes
  pub some : 1 ≤ sessions
  pub few : sessions ≤ 64
  pub few_lanes : lanes ≤ 8

abbrev pub IsOpening : List ModelUnit → Parts → Type 0
IsOpening now p = AreParts p.shape (drive_before p.handed) now p.sessions p.lanes p

-- A mount has begun on these units, which were handed in like this, with what was found. Its ring
-- was made for it.
pub record IsOpenedOn (s : Shape) (handed : List ModelUnit) (wear : List (List ℕ)) (sessions lanes : ℕ) (v : OpenedView) : Type 0 where
  pub handed_are : v.handed ≡ handed
  pub wear_is : v.wear ≡ wear
  pub sessions_are : v.sessions ≡ sessions
  pub lanes_are : v.lanes ≡ lanes
  pub found : Found
  pub is : IsFoundAfter s handed v.units found
  pub past_is : v.past ≡ opened_past s handed v.units found
