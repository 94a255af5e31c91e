-- What running a script on a target over the units of a drive comes to.
use Rattle.std.specs.Prelude.{ℕ, ◌+◌, ◌<◌, ◌≤◌, ◌≡◌, ◌⊎◌, Bool, true, false, if◌then◌else◌, List, [], ◌++◌, map, max, take, drop, length, slice_get, Option, Some, None, Result, Ok, Err}
use Rattle.std.specs.List.{AllByRecursion}
use Rattle.pblk_model.specs.declared.shape.Shape.{Shape}
use Rattle.pblk_model.specs.declared.script.Command.{Command}
use Rattle.pblk_model.specs.Contents.{contents, end}
use Rattle.pblk_model.specs.History.{after, users}
use Rattle.pblk_model.specs.Image.{Image}
use Rattle.pblk_model.specs.ImageFile as image_file
use Rattle.pblk_model.specs.Sealed.{IsSealed}
use Rattle.pblk_model.specs.Text.{Closed, Transcript}
use Rattle.pblk_model.specs.Transcript.{IsDistinct, IsRun, IsTranscript, events, sector_writes}
use Rattle.pblk_model.specs.UnitLog.{UnitEvent}
use Rattle.pblk_world.specs.AtRest.{IsAtRest}
use Rattle.pblk_world.specs.EngineLog.{begun}
use Rattle.pblk_world.specs.World.{World, Logs, log_of, media, unit_events}
use Rattle.pblk_world.specs.Fronts.{history, user_positions}
use Rattle.pblk_world.specs.Lines.{found_image}
use Rattle.pblk_world.specs.Space.{is_due}
use Rattle.unit_port.specs.declared.armed.Fuse.{Fuse}
use Rattle.unit_port.specs.Armed.{Armed, events_since, has_stopped}
use Rattle.unit_port.specs.Unit.{ModelUnit, IsFitUnit}
use Rattle.ocssd_drive.specs.Drive.{DriveView, IsWhole, stored, with_units}
use Rattle.ocssd_drive.specs.Faults.{changes_of}
use Rattle.ocssd_drive.specs.Outcomes.{AreEventsBy}
use Rattle.ocssd_drive.specs.Units.{WornUnit, disarmed}
use Rattle.scan_recovery.specs.DriveFaults.{NoDriveFaults, is_drive_fault}
use Rattle.scan_recovery.specs.Units.{image_of, log_length}
use Rattle.pblk_world.specs.LegalMounts.{IsLegalMount}
use Rattle.pblk_world.specs.Orders.{AreAfterResets, AreOpenedFull, NoneToFree, NoneWasLeft}
use Rattle.pblk_world.specs.Reasons.{AreBegun, AreGranted, AreUrgent}
use Rattle.write_ring.specs.declared.view.Key.{Key}
use Rattle.chronicle.specs.Views.{Past}
use Rattle.pblk_engine.specs.Workers.{WorkerView}
use Rattle.pblk_engine.specs.declared.errors.SettleErr.{SettleErr}
use Rattle.pblk_engine.specs.declared.errors.SettleErr.TheVariants as settle
use Rattle.block_port.specs.Port.{ModelPort}
use Rattle.block_target.specs.Closes.{IsClosed}
use Rattle.block_target.specs.Sessions.{SessionView, device}
use Rattle.block_target.specs.Opened.{CanOpen}
use Rattle.block_target.specs.OpenedTargets.{IsOpenedOn, OpenedView}
use Rattle.block_target.specs.Targets.{first_sessions}
use Rattle.run_threads.specs.declared.records.Records.{Records}
use Rattle.run_threads.specs.declared.records.Trouble.{Trouble}
use Rattle.run_threads.specs.declared.records.Trouble.TheVariants.{Drive, Worn}
use Rattle.run_threads.specs.Run.{WereRun}
use Rattle.run_threads.specs.Threads.{HasWorked, IsPrepared}
use Rattle.run_report.specs.Ports.{IsTrouble}
use Rattle.run_report.specs.Recorded.{IsRecorded}
use Rattle.run_report.specs.Report.{closing_of, opening_of, transcript_of}
use Rattle.pblk_cli.specs.declared.serving.Task.{Task}
use Rattle.pblk_cli.specs.declared.serving.Task.TheVariants.{Helpers, Threads}
use Rattle.pblk_cli.specs.Stops.{AreAllTold, HasBegun, name_at}
use Rattle.pblk_cli.specs.Synced.{AreFlushesSynced, IsAllSynced}
use Rattle.pblk_cli.specs.Worn.{AreRefusedIn}

-- what contracts of a target see of units, and the wear indices of their chunks
abbrev pub units_of : List WornUnit → List ModelUnit
units_of units = map (λ u. u.unit) units

abbrev pub wear_of : List WornUnit → List (List ℕ)
wear_of units = map (λ u. u.wear) units

-- Units that come back: each in its place, and armed as it was. They fit the drive, and no wear
-- index has changed. These are the units and their wear before and after.
pub record AreBackAs (s : Shape) (old : List ModelUnit) (was : List (List ℕ)) (new : List ModelUnit) (now : List (List ℕ)) : Type 0 where
  pub count : length new ≡ length old
  pub wear : now ≡ was
  pub shapes : (number : ℕ) (u : ModelUnit) → slice_get new number ≡ Some u → (u.shape ≡ s) × IsFitUnit u
  pub arms : (number : ℕ) (u v : ModelUnit) → slice_get old number ≡ Some u → slice_get new number ≡ Some v → v.armed ≡ u.armed

-- the same of units in memory
abbrev pub AreBack : Shape → List WornUnit → List WornUnit → Type 0
AreBack s old new = AreBackAs s (units_of old) (wear_of old) (units_of new) (wear_of new)

-- The target.

-- A drive was opened on these units, where no command was lost.
pub record IsOpening (s : Shape) (old : List ModelUnit) (wear : List (List ℕ)) (v : OpenedView) : Type 0 where
  pub opens : CanOpen s old
  pub opened : IsOpenedOn s old wear v.sessions v.lanes v
  pub done : NoDriveFaults old v.units

-- how many sessions a target has for so many threads: one at least, by which it is closed
abbrev pub sessions_for : ℕ → ℕ
sessions_for threads = max 1 threads

-- how many workers are at work beside the sessions
abbrev pub helpers_for : ℕ → Bool → ℕ
helpers_for lanes collector = lanes + (if collector then 1 else 0)

-- Sessions.

-- The threads of a script were run, each by a session of its own, from the target's beginning on.
-- The one session of a script without a thread has done nothing.
pub record HaveRun (past : Past) (key : Key) (handed : List ModelUnit) (wear : List (List ℕ)) (script : List (List Command)) (records : Records)
    (lasts : List SessionView) : Type 0 where
  -- the threads' sessions, in the end
  pub ports : List SessionView
  pub ran : let firsts = first_sessions past key (sessions_for (length script)) in
      WereRun script records (map (device past handed wear) (take (length script) firsts)) (map (device past handed wear) ports)
  pub lasts_are : let firsts = first_sessions past key (sessions_for (length script)) in lasts ≡ drop (length script) firsts ++ ports

-- the sessions' workers have the first numbers, in their order
abbrev pub AreNumbered : List SessionView → Type 0
AreNumbered sessions = (k : ℕ) (t : SessionView) → slice_get sessions k ≡ Some t → t.worker.number ≡ k

-- The workers besides have the next numbers. So many of them were at work, and the others have done
-- nothing.
pub record HaveHelped (sessions helpers : ℕ) (workers : List WorkerView) : Type 0 where
  pub numbers : (k : ℕ) (w : WorkerView) → slice_get workers k ≡ Some w → w.number ≡ sessions + k
  pub idle : (k : ℕ) (w : WorkerView) → slice_get workers k ≡ Some w → helpers ≤ k → w.made ≡ []

-- The first of these workers, so many, went on. Each keeps its number, and the others are as they were.
pub record HaveGoneOn (helpers : ℕ) (old new : List WorkerView) : Type 0 where
  pub count : length new ≡ length old
  pub numbers : (k : ℕ) (w : WorkerView) → slice_get new k ≡ Some w → (was : WorkerView) × (slice_get old k ≡ Some was) × (w.number ≡ was.number)
  pub others : (k : ℕ) (w : WorkerView) → slice_get new k ≡ Some w → helpers ≤ k → slice_get old k ≡ Some w

-- What one thread has to do: the work of these helpers, one at least, or the threads of a script.
abbrev pub CanWork : {M U : Type 0} → (SessionView → ModelPort) → ℕ → Task M U → Type 0
CanWork model helpers (Helpers workers) = (0 < helpers) × (helpers ≤ length workers.items)
CanWork model helpers (Threads prepared) = IsPrepared model prepared

-- It did it.
abbrev pub HasDone : {M U : Type 0} → (SessionView → ModelPort) → ℕ → Task M U → Task M U → Type 0
HasDone model helpers (Helpers old) (Helpers new) = HaveGoneOn helpers old.items new.items
HasDone model helpers (Helpers old) (Threads new) = ⊥
HasDone model helpers (Threads old) (Helpers new) = ⊥
HasDone model helpers (Threads old) (Threads new) = HasWorked model old new

-- the same of some tasks
abbrev pub CanAllWork : {M U : Type 0} → (SessionView → ModelPort) → ℕ → List (Task M U) → Type 0
CanAllWork model helpers tasks = (i : ℕ) (t : _) → slice_get tasks i ≡ Some t → CanWork model helpers t

pub record HaveAllDone {M U : Type 0} (model : SessionView → ModelPort) (helpers : ℕ) (olds news : List (Task M U)) : Type 0 where
  pub count : length news ≡ length olds
  pub done : (i : ℕ) (old new : _) → slice_get olds i ≡ Some old → slice_get news i ≡ Some new → HasDone model helpers old new

-- the trouble that a close met, by its answer
abbrev pub trouble_of : Result Unit SettleErr → Option Trouble
trouble_of (Ok x) = None
trouble_of (Err (settle.Worn wanted have)) = Some (Worn wanted have)
trouble_of (Err (settle.Drive unit event)) = Some (Drive unit event)

-- these records, with what the close met
abbrev pub with_closing : Records → Result Unit SettleErr → Records
with_closing records settled = record { threads = records.threads; opening = records.opening; closing = trouble_of settled }

-- A target was closed, by these sessions and workers, with this answer, and these units came back.
pub record IsBroughtBack (past : Past) (key : Key) (handed : List ModelUnit) (wear : List (List ℕ)) (lasts : List SessionView) (workers : List WorkerView)
    (settled : Result Unit SettleErr) (units : List ModelUnit) (worn : List (List ℕ)) : Type 0 where
  pub closed : IsClosed past key handed wear lasts workers settled units worn
  pub trouble : IsTrouble (trouble_of settled)

-- A target was closed, whatever its sessions and workers had done.
pub record IsOver (past : Past) (key : Key) (handed : List ModelUnit) (wear : List (List ℕ)) (units : List ModelUnit) (worn : List (List ℕ)) : Type 0 where
  pub lasts : List SessionView
  pub workers : List WorkerView
  pub settled : Result Unit SettleErr
  pub closed : IsClosed past key handed wear lasts workers settled units worn

-- The threads of a script were run by the sessions of a new target beside so many helpers, and the
-- target was closed.
pub record IsServedOn (past : Past) (key : Key) (handed : List ModelUnit) (wear : List (List ℕ)) (script : List (List Command)) (lanes helpers : ℕ)
    (units : List ModelUnit) (worn : List (List ℕ)) (records : Records) : Type 0 where
  pub before : Records
  pub lasts : List SessionView
  pub ran : HaveRun past key handed wear script before lasts
  pub count : length lasts ≡ sessions_for (length script)
  pub workers : List WorkerView
  pub workers_count : length workers ≡ lanes + 1
  pub helped : HaveHelped (sessions_for (length script)) helpers workers
  pub settled : Result Unit SettleErr
  pub back : IsBroughtBack past key handed wear lasts workers settled units worn
  pub records_are : records ≡ with_closing before settled

-- What was done.

-- the transcript of records, by the end of the image that these logs leave
abbrev pub transcript_by : List (List Command) → Records → Image → Logs → Transcript
transcript_by script records i logs = transcript_of script records (end (media i logs))

-- A unit of a drive is as a world leaves it that began with these units: what its log has grown by
-- are the world's events, and its chunks are what these leave.
pub record IsLeftBy (i : Image) (handed : List ModelUnit) (logs : Logs) (number : ℕ) (u : ModelUnit) : Type 0 where
  pub media : slice_get (media i logs).units number ≡ Some u.media
  pub before : ModelUnit
  pub was : slice_get handed number ≡ Some before
  pub log : u.log ≡ before.log ++ unit_events logs number

-- At this place, a unit and the number of an event in its log from 0, stands a command that was
-- stopped or a fetch that failed, and the unit's log hadn't got it when it was handed in.
pub record IsNewDriveFault (handed units : List ModelUnit) (place : ℕ × ℕ) : Type 0 where
  pub before : ModelUnit
  pub was : slice_get handed place.0 ≡ Some before
  pub since : length before.log ≤ place.1
  pub unit : ModelUnit
  pub there : slice_get units place.0 ≡ Some unit
  pub event : UnitEvent
  pub event_is : slice_get unit.log place.1 ≡ Some event
  pub lost : is_drive_fault event ≡ true

-- Each of these names is of such an event, and no two are of the same.
pub record AreNewDriveFaults (handed units : List ModelUnit) (names : List (ℕ × ℕ)) : Type 0 where
  pub places : List (ℕ × ℕ)
  pub names_are : names ≡ map name_at places
  pub each : AllByRecursion (IsNewDriveFault handed units) places
  pub distinct : IsDistinct places

-- A script was run on units with this image, or their target answered an event as it was opened.
-- What was done is a world.
pub record IsServing (i : Image) (handed units : List ModelUnit) (script : List (List Command)) (helpers : ℕ) (records : Records) (w : World) : Type 0 where
  pub legal : IsLegalMount i w
  -- The mount has begun in it, unless opening answered an event.
  pub has_begun : HasBegun (opening_of records.opening) (begun (log_of w 0))
  -- It began with the units that were handed in, and leaves these.
  pub each : (number : ℕ) (u : ModelUnit) → slice_get units number ≡ Some u → IsLeftBy i handed (log_of w) number u
  pub recorded : IsRecorded script records
  -- Each event that the transcript names is one of its own that was added to a unit's log, of a command
  -- that was stopped or a fetch that failed.
  pub named : AreNewDriveFaults handed units (events (transcript_by script records i (log_of w)))
  -- Of the opening's commands, of each thread's and of the close's, none that was stopped and no fetch
  -- that failed is left out, and they are named in the order of the world's steps.
  pub lost : AreAllTold (length script) helpers (log_length handed) w (transcript_by script records i (log_of w))
  -- Its history is the transcript's.
  pub history_is : history (log_of w 0) ≡ sector_writes i.shape.sector (transcript_by script records i (log_of w)).history
  -- The target was at rest at each answer for want of room.
  pub worn : AreRefusedIn i (log_of w) script (transcript_by script records i (log_of w))
  -- A user's sector was taken only where there had been room for it, and a copy only where it had been
  -- begun. A stripe with an entry was placed only where it was urgent.
  pub granted : AreGranted i (log_of w)
  pub begun : AreBegun i (log_of w)
  pub urgent : AreUrgent i (log_of w)
  -- Resets came first. Each line was opened where an entry waited and no open line had an address left.
  -- No line might be freed before an event, unless that event frees one.
  pub after_resets : AreAfterResets i (log_of w)
  pub opened_full : AreOpenedFull i (log_of w)
  pub none_was_left : NoneWasLeft i (log_of w)
  -- At the end no line is left that may be freed, unless opening answered an event.
  pub none_to_free : opening_of records.opening ≡ None → NoneToFree i (log_of w)
  -- Each flush counts lines of the history below the front synced, and no others.
  pub flushed : AreFlushesSynced i.shape (log_of w 0) script (transcript_by script records i (log_of w))
  -- Where neither opening nor the close answered anything, all that was taken is synced. And collection
  -- isn't due there, or the target is at rest.
  pub all_synced : opening_of records.opening ≡ None → closing_of records.closing ≡ Closed → IsAllSynced i.shape (log_of w 0)
  pub over : opening_of records.opening ≡ None → closing_of records.closing ≡ Closed → (is_due i (log_of w) ≡ false)
      ⊎ IsAtRest i (log_of w) 0 (length (log_of w 0))
  -- Kept are the lines of the history below the end of what is left.
  pub kept : (transcript_by script records i (log_of w)).kept ≡ users (user_positions (log_of w 0)) (end (media i (log_of w)))
  -- It is a transcript of the script from what the mount found. Where the image is sealed it is one of a
  -- run from what the image held.
  pub told : IsTranscript i.shape.sector script (contents (found_image i (log_of w))) (transcript_by script records i (log_of w))
  pub run : IsSealed i → let t = transcript_by script records i (log_of w) in let start = contents i in
      IsRun i.shape.sector script start t (after start (sector_writes i.shape.sector (take t.kept t.history)))

-- the same on the units of a drive of this shape
pub record IsServed (s : Shape) (script : List (List Command)) (helpers : ℕ) (old new : List ModelUnit) (records : Records) : Type 0 where
  pub world : World
  pub serving : IsServing (image_of s old) old new script helpers records world

-- Drives.

-- The fuse fell of a unit's arms: since it was armed, the unit of the fuse had as many programs and
-- resets as the fuse names.
pub record FellBetween (old new : List WornUnit) (a : Armed) : Type 0 where
  pub fuse : Fuse
  pub is : a.fuse ≡ Some fuse
  pub counted : 0 < fuse.nth
  pub before : ModelUnit
  pub was : slice_get (units_of old) fuse.unit ≡ Some before
  pub after : ModelUnit
  pub there : slice_get (units_of new) fuse.unit ≡ Some after
  pub fell : fuse.nth ≤ changes_of (events_since before.armed after.log)

-- What the units of a drive did since they were armed is by their arms, and one was stopped only
-- where the fuse fell.
pub record DidByArms (old new : List WornUnit) : Type 0 where
  pub outcomes : (number : ℕ) (u v : ModelUnit) → slice_get (units_of old) number ≡ Some u → slice_get (units_of new) number ≡ Some v
      → AreEventsBy u.shape u.armed (events_since u.armed v.log)
  pub fallen : (number : ℕ) (u v : ModelUnit) → slice_get (units_of old) number ≡ Some u → slice_get (units_of new) number ≡ Some v
      → has_stopped u.armed v.log ≡ true → FellBetween old new u.armed

-- a drive has its numbers still, with these units, and none of them is armed
pub record IsDriveLeft (found left : DriveView) : Type 0 where
  pub numbers : left ≡ with_units left.units found
  pub wear : wear_of left.units ≡ wear_of found.units
  -- each unit is as disarming leaves it: without plans and fuse
  pub unarmed : left.units ≡ map disarmed left.units
  pub was : IsWhole found
  pub whole : IsWhole left

-- A script was run on a drive, beside so many lanes and collectors.
pub record IsRan (found : DriveView) (script : List (List Command)) (helpers : ℕ) (left : DriveView) (records : Records) : Type 0 where
  pub world : World
  pub serving : IsServing (image_file.image_of (stored found)) (units_of found.units) (units_of left.units) script helpers records world
  pub by_arms : DidByArms found.units left.units
  pub drive : IsDriveLeft found left
