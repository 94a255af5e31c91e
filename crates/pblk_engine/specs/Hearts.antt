-- What decides for a target, and what it stands for.
use Rattle.std.specs.Prelude.{ℕ, suc, ◌+◌, ◌*◌, ◌-◌, ◌^◌, ◌<◌, ◌≤◌, ◌≡◌, ◌≢◌, ◌⊎◌, Bool, true, false, List, [], ◌∷◌, length, map, max, Option, Some}
use Rattle.std.specs.Option.{is_some, option_map}
use mathlib.Core.List.{IsPrefix}
use Rattle.atomic_table.specs.Seated.{TableId}
use Rattle.pblk_model.specs.Accepted.{IsAccepted}
use Rattle.pblk_model.specs.Image.{Image, IsFit}
use Rattle.pblk_model.specs.RingState.{covers}
use Rattle.pblk_model.specs.Shape.{units}
use Rattle.pblk_model.specs.declared.shape.Shape.{Shape}
use Rattle.pblk_world.specs.AtRest.{AreResetsNoted, logs_at}
use Rattle.pblk_world.specs.EngineLog.{Begun, Taken, begun, takes}
use Rattle.pblk_world.specs.Events.{Logged, Source}
use Rattle.pblk_world.specs.Fronts.{first_position}
use Rattle.pblk_world.specs.LegalMounts.{IsLegalMount}
use Rattle.pblk_world.specs.Orders.{AreInOrder, NoneToFree}
use Rattle.pblk_world.specs.Reasons.{HasReasons, WasAsked, WasBegun, WasRoom}
use Rattle.pblk_world.specs.Space.{freed, room}
use Rattle.pblk_world.specs.World.{World, Logs, log_of}
use Rattle.world_laws.specs.SameTold.{AreSameNamed}
use Rattle.core_laws.specs.WindowOf.{is_given_back}
use Rattle.step_laws.specs.SlotBlocks.{IsBlockOfSlot}
use Rattle.sector_pool.specs.declared.entry.Source.{Source as EntrySource}
use Rattle.write_window.specs.Window as window
use Rattle.write_ring.specs.declared.view.Key.{Key}
use Rattle.write_ring.specs.declared.view.Part.{Part}
use Rattle.write_ring.specs.declared.view.Row.{Row}
use Rattle.write_ring.specs.declared.view.View.{View}
use Rattle.write_ring.specs.declared.table.Ring.{Ring}
use Rattle.write_ring.specs.Handles.{ring_key}
use Rattle.write_ring.specs.Stock.{HasPut}
use Rattle.pblk_core.specs.Collecting.{Collects}
use Rattle.pblk_core.specs.Copies.{is_copying}
use Rattle.pblk_core.specs.Named.{named, pad_of}
use Rattle.pblk_core.specs.declared.work.Work.{Work}
use Rattle.pblk_core.specs.Stands.{Stands}
use Rattle.pblk_core.specs.declared.target_core.Core.{Core}
use Rattle.chronicle.specs.Handles.{AuthorView}
use Rattle.chronicle.specs.Prefixes.{logs_of, AreLegalLogs, ArePrefixes}
use Rattle.chronicle.specs.Views.{Past}
use Rattle.write_ring.specs.Batches.{BatchView}
use Rattle.pblk_engine.specs.CopyPlaces.{copy_of}
use Rattle.pblk_engine.specs.declared.copying.CopyPlace.{CopyPlace}

-- What contracts see of a heart: its author with what it knows, the ring's intake, what the core
-- names as its next work, whether a copy is under way, the pad target, up to which position flushes
-- and the close asked for pads, the sector that is copied next where the search has come to it, and
-- what its buffer for a block has.
pub record HeartView : Type 0 where
  pub author : AuthorView
  pub intake : View
  pub work : Work
  pub copying : Bool
  pub pad : ℕ
  pub asked : ℕ
  pub copy : Option CopyPlace
  pub sector : List ℕ

-- The core, the author of the engine's log, and the intake of the write ring.
pub record Parts : Type 0 where
  pub core : Core
  pub author : AuthorView
  pub intake : View

-- What the engine's last event named is a legal world by itself, and its logs are what it named, to
-- their ends. What units did since changes nothing of what the engine's log says.
pub record IsLeft (i : Image) (logs : Logs) : Type 0 where
  pub left : World
  pub legal : IsLegalMount i left
  pub named : AreSameNamed logs (log_of left)
  pub whole : logs_at (length (logs 0)) logs ≡ log_of left

-- an entry as the ring has it
abbrev pub ring_source : Option Source → Option EntrySource
ring_source source = option_map (λ (from : Source). record { line = from.line; at = from.at; position = from.position }) source

abbrev pub ring_row : Taken → Row
ring_row t = record {
  position = t.entry.position;
  copy = is_some t.entry.source;
  lba = t.entry.lba;
  source = ring_source t.entry.source;
  sector = t.entry.sector;
}

-- No slot names this position in the buffer: it is below the mount's first, or a block of it that
-- has landed can be read.
abbrev pub IsOut : Shape → List Logged → ℕ → Type 0
IsOut s log position = (position < first_position log) ⊎ (is_given_back s log position ≡ true)

-- A copy that the intake has claimed and not yet taken. Users' entries below it were granted when
-- it was begun. Its sector is that of the block which its source named when it was fetched, in a
-- world that these logs go on from.
pub record IsClaimedCopy (i : Image) (logs : Logs) (pass : Part) (taken : ℕ) : Type 0 where
  pub row : Row
  pub put : HasPut row pass
  pub from : taken ≤ row.position
  -- it is the only one of the intake's claims that isn't taken
  pub only : (x : ℕ) → taken ≤ x → x ≢ row.position → covers x pass.claims ≡ 0
  pub only_put : (r : Row) → HasPut r pass → taken ≤ r.position → r ≡ row
  pub source : Source
  pub is_source : row.source ≡ ring_source (Some source)
  -- the world in which it was fetched
  pub world : World
  pub legal : IsLegalMount i world
  pub beginning : Begun
  pub has_begun : begun (log_of world 0) ≡ Some beginning
  pub begun : WasBegun i logs (length (logs 0)) row.lba source
  pub granted : (x : ℕ) → taken ≤ x → x < row.position → WasRoom i logs begun.at (x + 1)
  pub earlier : (author : ℕ) → IsPrefix (log_of world author) (logs author)
  pub block : IsBlockOfSlot i (log_of world) row.lba source.line source.at source.position
  -- the source isn't in the buffer
  pub out : IsOut i.shape (logs 0) source.position
  pub sector : row.sector ≡ block.block.sector

-- No copy that the intake has claimed, or put, isn't taken.
pub record HasNoCopy (pass : Part) (taken : ℕ) : Type 0 where
  pub claims : (x : ℕ) → taken ≤ x → covers x pass.claims ≡ 0
  pub puts : (r : Row) → HasPut r pass → r.position < taken

-- Where a copy is under way, just one is claimed and not yet taken, and else none is.
abbrev pub HasCopies : Image → Logs → Bool → Part → ℕ → Type 0
HasCopies i logs true pass taken = IsClaimedCopy i logs pass taken
HasCopies i logs false pass taken = HasNoCopy pass taken

-- The core stands for these logs of a mount, and collects what they say. The ring has taken, freed
-- and granted what the core has.
pub record IsHeart (i : Image) (logs : Logs) (c : Core) (v : View) : Type 0 where
  pub stands : Stands i logs c
  pub collects : Collects i logs c
  -- the frames of the window's entries are the ring's
  pub own : window.AreOf v.key.origin.region c.window.entries
  -- what the intake took are the takes of the engine's log
  pub took : v.intake.took ≡ map ring_row (takes (logs 0))
  pub taken : v.intake.taken ≡ window.taken c.window
  pub freed : v.intake.freed ≡ c.window.freed
  -- No grant passes the ring's end, less what is kept for copies, nor the last position. There was
  -- room for it once.
  pub within : v.intake.granted + units i.shape * i.shape.ws_opt ≤ v.intake.freed + i.shape.ring
  pub last : v.intake.granted ≤ max (2 ^ 61 - 2) (first_position (logs 0))
  pub once : WasRoom i logs (length (logs 0)) v.intake.granted
  -- pads were asked for up to the pad target
  pub pads : 0 < pad_of c → WasAsked i logs (length (logs 0)) (pad_of c)
  pub copies : HasCopies i logs (is_copying c) v.pass v.intake.taken
  -- each reset that wasn't stopped is noted
  pub noted : AreResetsNoted logs
  -- the engine did its work in its order, and all of it had its reason
  pub in_order : AreInOrder i logs
  pub reasons : HasReasons i logs
  pub left : IsLeft i logs

-- Nothing is left to be freed, given back or granted.
pub record IsSettled (i : Image) (logs : Logs) (c : Core) (v : View) : Type 0 where
  pub heart : IsHeart i logs c v
  pub none_to_free : NoneToFree i logs
  pub drained : c.window.freed ≡ freed i.shape (logs 0)
  pub room : room i logs ≤ v.intake.granted

-- The ring is made for drives like that of the image: it has the drive's number of entries, keeps a
-- stripe of each unit for copies, and takes its sectors.
pub record IsRingFor (i : Image) (key : Key) : Type 0 where
  pub accepted : IsAccepted i.shape
  pub fit : IsFit i
  pub size : key.size ≡ i.shape.ring
  pub reserve : key.reserve ≡ units i.shape * i.shape.ws_opt
  pub sector : key.origin.region.size ≡ i.shape.sector
  pub capacity : key.capacity ≡ i.shape.capacity

-- The author is the engine's, and owns its log alone.
pub record IsEngine (a : AuthorView) : Type 0 where
  pub number : a.number ≡ 0
  pub owned : a.owned ≡ 0 ∷ []

-- What a heart is within a hold of its lock: it stands for the logs that its author knows, which
-- are a legal world.
pub record IsBeating (h : Parts) : Type 0 where
  pub engine : IsEngine h.author
  pub legal : AreLegalLogs h.author.past.image h.author.known
  pub fits : IsRingFor h.author.past.image h.intake.key
  pub heart : IsHeart h.author.past.image (logs_of h.author.known) h.core h.intake

-- The author appended events to its own log, and learned nothing else.
pub record HasDecided (old new : AuthorView) : Type 0 where
  pub same : new ≡ record old { known = new.known }
  pub keeps : ArePrefixes old.known new.known
  pub units : (unit : ℕ) → logs_of new.known (suc unit) ≡ logs_of old.known (suc unit)

-- A step of a core that neither places nor answers a stripe, and takes no entry.
pub record KeepsWork (old new : Core) : Type 0 where
  -- each unit has the stripe that it had, under way or stopped as it was
  pub rows : new.placer.units ≡ old.placer.units
  pub copying : is_copying new ≡ is_copying old
  pub pad : pad_of old ≤ pad_of new

-- What a heart keeps between two holds of its lock: it is of this chronicle and of this ring, and
-- is settled in the world that its author knows.
pub record IsHeartOf (logs table : TableId) (past : Past) (key : Key) (place : TableId) (h : Parts) : Type 0 where
  pub of : h.author.chronicle ≡ logs
  pub engine : IsEngine h.author
  pub since : h.author.past ≡ past
  pub legal : AreLegalLogs past.image h.author.known
  pub begun : ArePrefixes past.logs h.author.known
  pub its_ring : place ≡ table
  pub its_key : h.intake.key ≡ key
  pub fits : IsRingFor past.image key
  pub settled : IsSettled past.image (logs_of h.author.known) h.core h.intake

-- the ring with this table, which was made with this
abbrev pub IsRingOf : TableId → Key → Ring → Type 0
IsRingOf table key r = (r.table.shared.table_id ≡ table) × (ring_key r ≡ key)

-- What copies need: a batch with one frame of the ring's region, which is free; a buffer for a
-- block, as long as a frame; and how many slots the ring has.
pub record IsCopyBatch (key : Key) (b : BatchView) (buffer : List ℕ) (count : ℕ) : Type 0 where
  pub region : b.region ≡ key.origin.region
  pub free : b.free ≡ 1
  pub empty : b.drafts ≡ []
  pub sector : length buffer ≡ key.origin.region.size
  pub slots : count ≡ key.size

abbrev pub parts : Core → AuthorView → View → Parts
parts core author intake = record { core = core; author = author; intake = intake }

abbrev pub heart_view : Core → AuthorView → View → ℕ → List ℕ → HeartView
heart_view core author intake asked sector = record {
  author = author;
  intake = intake;
  work = named core;
  copying = is_copying core;
  pad = pad_of core;
  asked = asked;
  copy = copy_of core;
  sector = sector;
}
