-- A core stands for the logs of a mount: each of its tables holds what the logs say.
use Rattle.std.specs.Prelude.{ℕ, false, ◌+◌, ◌-◌, ◌%◌, ◌^◌, ◌<◌, ◌≤◌, ◌≡◌, ◌||◌, Bool, List, map, min, length, slice_get, Some}
use Rattle.std.specs.List.{AllByRecursion, Contains, filter, range_with_len}
use Rattle.std.specs.Option.{is_some}
use Rattle.std.specs.FinMap as map
use Rattle.pblk_model.specs.declared.shape.Shape.{Shape}
use Rattle.pblk_model.specs.Shape.{units}
use Rattle.pblk_model.specs.Image.{Image}
use Rattle.pblk_model.specs.StartRecord.{Row as OlderLine}
use Rattle.pblk_meta.specs.Records.{start_numbers}
use Rattle.pblk_world.specs.Events.{Logged}
use Rattle.pblk_world.specs.World.{World, Logs, log_of}
use Rattle.pblk_world.specs.EngineLog.{Begun, begun, Opening, Placed, Taken, takes, openings, answers, turn}
use Rattle.pblk_world.specs.Fronts.{first_position, user_takes}
use Rattle.pblk_world.specs.Lines.{known_image}
use Rattle.pblk_world.specs.Space.{freed, placed_front, open_addresses}
use Rattle.pblk_world.specs.Starts.{older_rows}
use Rattle.pblk_layout.specs.Online.{units_in}
use Rattle.stripe_placer.specs.OpenLines.{OpenLine, has_left, is_to_place, is_unanswered, numbers, stripe_is}
use Rattle.core_laws.specs.OpenedLines.{opened_units, bits_of, online_now, open_line, standing}
use Rattle.core_laws.specs.PlacerOf.{placing_of, unanswered_on}
use Rattle.core_laws.specs.RowsOf.{rows_of}
use Rattle.core_laws.specs.SlotOf.{slot_of}
use Rattle.core_laws.specs.WindowOf.{is_given_back, sectors_in, window_from}
use Rattle.core_laws.specs.ClosedLines.{ClosedLine, closed_line}
use Rattle.core_laws.specs.Spent.{OpensWhenFull}
use Rattle.pblk_world.specs.LegalMounts.{IsLegalMount}
use Rattle.pblk_core.specs.Holds.{hold_of}
use Rattle.pblk_core.specs.LineRecords.{AreRecordsOf}
use Rattle.pblk_core.specs.LineNotes.{AreNotes}
use Rattle.pblk_core.specs.Resets.{ResetQueue, resets_left, resets_of, used_in, used_units}
use Rattle.pblk_core.specs.declared.hold.Holds.{Holds}
use Rattle.pblk_core.specs.declared.open_lines.OpenLine.{OpenLine as KeptLine}
use Rattle.pblk_core.specs.declared.open_lines.OpenLines.{OpenLines}
use Rattle.pblk_core.specs.declared.target_core.Core.{Core}

-- Holds: a row for each entry of which no block can be read yet.
pub record AreHolds (s : Shape) (log : List Logged) (holds : Holds) : Type 0 where
  pub room : length holds.rows.items ≡ s.ring
  pub each : (t : Taken) → Contains (takes log) t → is_given_back s log t.entry.position ≡ false
      → slice_get holds.rows.items (t.entry.position % s.ring) ≡ Some (hold_of s log t)

-- Open lines: the openings of those that have a stripe left, in their order.
abbrev pub left_openings : Image → Logs → List Opening
left_openings i logs = filter (λ o. has_left (open_line i logs o)) (standing (logs 0))

-- How many stripes of a line are still to land or to be lost: those that aren't answered, and those
-- that are to be placed. Of a chunk of which a stripe was lost no other is placed.
abbrev pub is_left : OpenLine → ℕ → Bool
is_left l j = is_to_place l j || stripe_is l is_unanswered j

abbrev pub stripes_left : OpenLine → ℕ
stripes_left l = length (filter (is_left l) (numbers l))

pub record IsOpenLine (i : Image) (logs : Logs) (o : Opening) (kept : KeptLine) : Type 0 where
  pub records : AreRecordsOf i.shape (logs 0) o kept.records
  pub online : kept.online ≡ bits_of (opened_units i logs o)
  pub left : kept.stripes_left ≡ stripes_left (open_line i logs o)

pub record AreOpenLines (i : Image) (logs : Logs) (kept : OpenLines) : Type 0 where
  pub two : length kept.slots.items ≡ 2
  pub shapes : (k : ℕ) (line : KeptLine) → slice_get kept.slots.items k ≡ Some line → line.records.shape ≡ i.shape
  pub count : kept.count ≡ length (left_openings i logs)
  pub few : kept.count ≤ 2
  pub each : (k : ℕ) (o : Opening) (line : KeptLine) → slice_get (left_openings i logs) k ≡ Some o
      → slice_get kept.slots.items k ≡ Some line → IsOpenLine i logs o line

-- the chunks that are used of each line that is closed
abbrev pub AreUsed : Image → Logs → ResetQueue → Type 0
AreUsed i logs resets = (line : ℕ) (closed : ClosedLine) → closed_line i logs line ≡ Some closed
    → units_in (used_in resets line) ≡ used_units (known_image i logs) line

-- how many units have a stripe that is neither landed nor lost
abbrev pub under_way : Shape → List Logged → ℕ
under_way s log = length (filter (λ unit. is_some (unanswered_on log unit)) (range_with_len 0 (units s)))

-- how many stripes of each unit were answered, or 2^64 - 1 where that is less
abbrev pub answer_count : List Logged → ℕ → ℕ
answer_count log unit = min (length (answers log unit)) (2 ^ 64 - 1)

-- the turn of a stripe on its unit, as it tells it: 2^64 - 1 where that is less
abbrev pub turn_told : List Logged → Placed → ℕ
turn_told log p = min (turn log p) (2 ^ 64 - 1)

abbrev pub answer_counts : Shape → List Logged → List ℕ
answer_counts s log = map (answer_count log) (range_with_len 0 (units s))

-- The numbers that the mount began with fit a drive: its first position, and the rows of older
-- lines, which are older than the mount and end before it.
abbrev pub IsOlder : ℕ → ℕ → OlderLine → Type 0
IsOlder seq first row = (1 ≤ row.seq) × (row.seq < seq) × (row.bound ≤ first)

pub record HasFitNumbers (c : Core) : Type 0 where
  pub first : c.first ≤ 2 ^ 62
  pub rows : AllByRecursion (IsOlder c.start.first_seq c.first) (start_numbers c.start).rows

pub record Stands (i : Image) (logs : Logs) (c : Core) : Type 0 where
  pub layout : c.layout ≡ i.shape
  pub beginning : Begun
  pub has_begun : begun (logs 0) ≡ Some beginning
  -- the map
  pub capacity : map.len c.map ≡ i.shape.capacity
  pub slots : (lba : ℕ) → lba < i.shape.capacity → map.get c.map lba ≡ Some (slot_of i logs lba)
  -- the lines
  pub table : c.lines ≡ rows_of i logs
  pub units : c.online.items ≡ map (online_now i logs) (range_with_len 0 i.shape.chunks)
  pub resets : resets_left c.resets ≡ resets_of i logs
  pub used_lines : length c.resets.used ≡ i.shape.chunks
  pub used : AreUsed i logs c.resets
  pub notes : AreNotes i logs c.notes
  -- the window
  pub size : c.window.size ≡ i.shape.ring
  pub window : sectors_in c.window ≡ window_from i.shape (logs 0) c.window.freed
  pub from_first : first_position (logs 0) ≤ c.window.freed
  pub to_freed : c.window.freed ≤ freed i.shape (logs 0)
  pub holds : AreHolds i.shape (logs 0) c.holds
  -- the placer, where the stopped stripes of these units are under way again, and the records of
  -- the open lines
  pub again : List ℕ
  pub placing : c.placer ≡ placing_of i logs c.placer.entries.pad again
  pub open_lines : AreOpenLines i logs c.open
  -- and each line was opened where no line that was open then had a data address left
  pub full : OpensWhenFull i logs
  -- what the next start record says
  pub next_seq : c.start.seq ≡ beginning.beginning.seq + length (openings (logs 0))
  pub first_seq : c.start.first_seq ≡ beginning.beginning.seq
  pub own_capacity : c.start.capacity ≡ i.shape.capacity
  pub older : (start_numbers c.start).rows ≡ older_rows i logs
  pub fits : HasFitNumbers c
  -- counters
  pub first : c.first ≡ first_position (logs 0)
  pub placed : c.first + c.placed ≡ placed_front i.shape (logs 0)
  pub left : c.left ≡ open_addresses i logs
  pub in_flight : c.under_way ≡ under_way i.shape (logs 0)
  pub answers : c.answers.items ≡ answer_counts i.shape (logs 0)
  pub users : c.users ≡ length (user_takes (logs 0))

-- It stands for the logs of some legal mount.
pub record IsStanding (c : Core) : Type 0 where
  pub image : Image
  pub world : World
  pub legal : IsLegalMount image world
  pub stands : Stands image (log_of world) c
