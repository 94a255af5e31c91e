-- What a core collects: the victim at work, and the sector that is copied next.
use Rattle.std.specs.Prelude.{ℕ, ◌+◌, ◌^◌, ◌<◌, ◌≤◌, ◌≡◌, ◌≢◌, if◌then◌else◌, nat_le, true, false, length, slice_get, Option, Some, None}
use Rattle.std.specs.FinMap as fin
use Rattle.std.specs.Option.{option_and_then, option_map}
use Rattle.pblk_model.specs.declared.shape.Shape.{Shape}
use Rattle.pblk_model.specs.Image.{Image}
use Rattle.pblk_model.specs.LineOrder.{data_len}
use Rattle.pblk_model.specs.Shape.{units}
use Rattle.pblk_layout.specs.Online.{units_in}
use Rattle.pblk_world.specs.AtRest.{pad_target, victim_now}
use Rattle.pblk_world.specs.Victims.{comes_to_work}
use Rattle.pblk_world.specs.World.{World, Logs, log_of}
use Rattle.pblk_world.specs.LegalMounts.{IsLegalMount}
use Rattle.l2p_map.specs.declared.slot.Slot.TheVariants.{Media}
use Rattle.line_table.specs.declared.row.Row.{Row}
use Rattle.victim_index.specs.declared.candidate.Candidate.{Candidate}
use Rattle.core_laws.specs.CandidateLines.{is_failed_state}
use Rattle.pblk_core.specs.Copies.{copy_due, is_copying}
use Rattle.pblk_core.specs.LineNotes.{outdated_seq}
use Rattle.pblk_core.specs.Named.{pad_of}
use Rattle.pblk_core.specs.Stands.{Stands}
use Rattle.pblk_core.specs.declared.collecting.CopyJob.{CopyJob}
use Rattle.pblk_core.specs.declared.line_notes.LineNote.{LineNote}
use Rattle.pblk_core.specs.declared.line_notes.StartNote.{StartNote}
use Rattle.pblk_core.specs.declared.target_core.Core.{Core}

-- By the core's tables.

-- No sector below the cursor is on the drive in the victim at work.
abbrev pub HasPassed : Core → Type 0
HasPassed c = (lba line at position : ℕ) → lba < c.collection.cursor → c.collection.victim ≡ Some line
    → fin.get c.map lba ≢ Some (Media line at position)

-- The job names the first sector that is on the drive in the victim at work, with its place there.
pub record IsCopyReady (c : Core) (job : CopyJob) : Type 0 where
  pub due : copy_due c ≡ true
  pub idle : is_copying c ≡ false
  pub at_work : c.collection.victim ≡ Some job.line
  pub inside : job.lba < c.layout.capacity
  pub there : fin.get c.map job.lba ≡ Some (Media job.line job.at job.position)
  pub first : (lba at position : ℕ) → lba < job.lba → fin.get c.map lba ≢ Some (Media job.line at position)

-- Lines that may be collected.

-- What the choice looks at in a line, by its note, its row and its online units, where it might be
-- collected: it is outdated, and its live sectors are at most its data addresses less a stripe.
abbrev pub weighed_by : Shape → Option StartNote → LineNote → Row → ℕ → Option Candidate
weighed_by s newest note row online = if nat_le (row.live + s.ws_opt) (data_len s (length (units_in online)))
    then option_map (λ seq. record { failed = is_failed_state row.state; live = row.live; seq = seq }) (outdated_seq note newest)
    else None

abbrev pub weighed : Core → ℕ → Option Candidate
weighed c line = option_and_then (λ note. option_and_then (λ row. option_and_then
    (weighed_by c.layout c.notes.newest note row) (slice_get c.online.items line)) (slice_get c.lines.rows line))
    (slice_get c.notes.rows.items line)

-- where it is noted that no line may be collected, none may
abbrev pub IsBarrenRightly : Core → Type 0
IsBarrenRightly c = c.collection.barren ≡ true → (line : ℕ) → weighed c line ≡ None

-- no line has come to be one that may be collected
abbrev pub BringsNone : Core → Core → Type 0
BringsNone old new = (line : ℕ) → weighed old line ≡ None → weighed new line ≡ None

-- or this one alone has, where one is named
abbrev pub BringsNoneBut : Option ℕ → Core → Core → Type 0
BringsNoneBut at old new = (line : ℕ) → at ≢ Some line → weighed old line ≡ None → weighed new line ≡ None

-- A step before which and after which the choice of a victim sees the same.
pub record KeepsCollecting (old new : Core) : Type 0 where
  -- the victim at work, and how far its sectors were copied
  pub collection : new.collection ≡ old.collection
  -- where the latest content of each sector is
  pub map : new.map ≡ old.map
  pub pad : pad_of new ≡ pad_of old
  -- no line has come to be one that may be collected
  pub brings : BringsNone old new

-- By the logs.

-- the victim after an event, where this one is at work or none is
abbrev pub victim_after : Image → Logs → Option ℕ → Option ℕ
victim_after i logs None = comes_to_work i logs
victim_after i logs (Some line) = Some line

-- What a core collects is what the logs of its mount say.
pub record Collects (i : Image) (logs : Logs) (c : Core) : Type 0 where
  pub count : length c.collection.lines ≡ i.shape.chunks
  pub victim : c.collection.victim ≡ victim_now i logs
  pub passed : HasPassed c
  pub barren : IsBarrenRightly c
  pub asked : pad_target i logs 0 ≤ pad_of c

-- It stands for the logs of some legal mount, and collects what they say.
pub record IsCollecting (c : Core) : Type 0 where
  pub image : Image
  pub world : World
  pub legal : IsLegalMount image world
  pub stands : Stands image (log_of world) c
  pub collects : Collects image (log_of world) c

-- The choice of a victim.

-- The tables have a row of each line of the drive, and the online units of each are units of the
-- drive.
pub record HasEachLine (c : Core) : Type 0 where
  pub rows : length c.lines.rows ≡ c.layout.chunks
  pub noted : length c.notes.rows.items ≡ c.layout.chunks
  pub online : length c.online.items ≡ c.layout.chunks
  pub few : (line bits : ℕ) → slice_get c.online.items line ≡ Some bits → bits < 2 ^ units c.layout

-- There is room to weigh each line, and the victim is one of the lines.
pub record IsTabled (c : Core) : Type 0 where
  pub each : HasEachLine c
  pub count : length c.collection.lines ≡ c.layout.chunks
  pub in_range : (line : ℕ) → c.collection.victim ≡ Some line → line < c.layout.chunks
