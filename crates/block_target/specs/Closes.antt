-- A target that was closed: what its world is, by the tickets and the workers that came back.
use Rattle.std.specs.Prelude.{ℕ, zero, suc, ◌+◌, ◌-◌, ◌^◌, ◌<◌, ◌≤◌, ◌≡◌, ◌⊎◌, ⊤, false, List, [], ◌∷◌, ◌++◌, map, min, length, slice_get, Some, Result, Ok, Err}
use Rattle.std.specs.List.{AllByRecursion, filter, flat_map}
use mathlib.Core.List.{IsPrefix}
use Rattle.pblk_model.specs.Contents.{end}
use Rattle.pblk_model.specs.Image.{Image}
use Rattle.pblk_model.specs.Sealed.{IsSealed}
use Rattle.pblk_world.specs.AtRest.{IsAtRest, IsWornFlush}
use Rattle.pblk_world.specs.Fronts.{synced, taken}
use Rattle.pblk_world.specs.LegalMounts.{IsLegalMount}
use Rattle.pblk_world.specs.Makers.{HasMakers}
use Rattle.pblk_world.specs.Orders.{AreAfterResets, AreOpenedFull, NoneToFree, NoneWasLeft}
use Rattle.pblk_world.specs.Reasons.{HasReasons}
use Rattle.pblk_world.specs.Space.{is_due, position_limit}
use Rattle.pblk_world.specs.World.{World, Logs, log_of, media}
use Rattle.prefix_law.specs.PlacedAgain.{ArePlacedAgain}
use Rattle.pblk_world.specs.Events.{Does, Logged, Maker}
use Rattle.pblk_model.specs.UnitLog.{UnitEvent}
use Rattle.rest_laws.specs.Tidy.{IsTidy}
use Rattle.rest_laws.specs.TidyMounts.{HasNoFailures, HasNumbersLeft}
use Rattle.scan_recovery.specs.DriveFaults.{drive_faults_of, is_drive_fault}
use Rattle.scan_recovery.specs.Units.{log_length}
use Rattle.unit_port.specs.Unit.{ModelUnit}
use Rattle.block_port.specs.ByPlace.{ThreadWrite, all_lines, by_place}
use Rattle.block_port.specs.Own.{OwnWrite, lines_of}
use Rattle.block_port.specs.declared.rows.DriveAnswer.{DriveAnswer}
use Rattle.block_port.specs.declared.rows.WornAnswer.{WornAnswer}
use Rattle.write_ring.specs.declared.view.Key.{Key}
use Rattle.write_ring.specs.declared.view.Part.{Part}
use Rattle.chronicle.specs.Prefixes.{AreLegalLogs, logs_of}
use Rattle.chronicle.specs.Views.{Past}
use Rattle.pblk_engine.specs.Alone.{HasSettledAlone}
use Rattle.pblk_engine.specs.Arms.{IsArm}
use Rattle.pblk_engine.specs.Workers.{Made, WorkerView}
use Rattle.pblk_engine.specs.declared.errors.SettleErr.{SettleErr}
use Rattle.pblk_engine.specs.declared.errors.SettleErr.TheVariants as errors
use Rattle.block_target.specs.Refusals.{AreRefusals}
use Rattle.block_target.specs.Sessions.{EndBelow, IsSession, PlacesRise, SessionView, WereRefused, history_lines}
use Rattle.block_target.specs.Targets.{TargetView}

-- What comes back.

-- These are all that an opening handed out with the target, as they stand by now. The tickets'
-- passes have all shares of the ring that the target's own hasn't, and that has claimed nothing
-- itself.
pub record AreAllBack (target : TargetView) (tickets : List SessionView) (workers : List WorkerView) : Type 0 where
  pub some : 0 < length tickets
  pub shares : target.pass.pass.shares + length tickets ≡ 127
  pub claims : target.pass.pass.claims ≡ []
  pub puts : target.pass.pass.puts ≡ []
  pub named : target.named ≡ Some (length tickets + length workers)
  pub sessions : (k : ℕ) (t : SessionView) → slice_get tickets k ≡ Some t → t.worker.number ≡ k
  pub others : (k : ℕ) (w : WorkerView) → slice_get workers k ≡ Some w → w.number ≡ length tickets + k

-- a pass once it has taken those of the tickets in
abbrev pub joined : Part → List SessionView → Part
joined pass [] = pass
joined pass (t ∷ tickets) = let rest = joined pass tickets in record rest {
  shares = rest.shares + t.part.shares;
  claims = rest.claims ++ t.part.claims;
  puts = rest.puts ++ t.part.puts;
}

-- the workers of tickets behind others, the first ticket's last
abbrev pub with_workers : List WorkerView → List SessionView → List WorkerView
with_workers workers [] = workers
with_workers workers (t ∷ tickets) = with_workers workers tickets ++ t.worker ∷ []

-- A ticket has kept what a session keeps, and what its worker knows is legal.
pub record IsKept (past : Past) (handed : List ModelUnit) (t : SessionView) : Type 0 where
  pub count : ℕ
  pub session : IsSession past handed count t
  pub legal : AreLegalLogs past.image t.worker.known

-- What the world is.

-- the writes of sessions, which are numbered from this number on
abbrev pub writes_from : ℕ → List SessionView → List ThreadWrite
writes_from thread [] = []
writes_from thread (t ∷ tickets) = map (λ w. record { thread = thread; write = w }) t.own ++ writes_from (suc thread) tickets

-- the answer that names the event at this place, which is its unit, and how many events that unit
-- had since it was handed in
abbrev pub answer_at : List ModelUnit → ℕ × ℕ → DriveAnswer
answer_at handed place = record {
  unit = place.0;
  event = min (log_length handed place.0 + place.1 + 1) (2 ^ 64 - 1);
}

-- where the commands of these stand that were lost
abbrev pub lost_places : List Made → List (ℕ × ℕ)
lost_places made = map (λ (m : Made). (m.unit, m.number)) (filter (λ (m : Made). is_drive_fault m.event) made)

-- the closing's answer, where it was Drive; and where it was Worn, of a session that had written so
-- many sectors

abbrev pub close_faults : Result (Unit {0}) SettleErr → List DriveAnswer
close_faults (Ok x) = []
close_faults (Err (errors.Drive unit event)) = record { unit = unit; event = event } ∷ []
close_faults (Err (errors.Worn wanted have)) = []

abbrev pub close_worns : ℕ → Result (Unit {0}) SettleErr → List WornAnswer
close_worns written (Ok x) = []
close_worns written (Err (errors.Drive unit event)) = []
close_worns written (Err (errors.Worn wanted have)) = record { written = written; count = 0; wanted = wanted; have = have } ∷ []

-- the closing's answers are the first session's

abbrev pub faults_in : ℕ → SessionView → Result (Unit {0}) SettleErr → List DriveAnswer
faults_in zero t settled = t.faults ++ close_faults settled
faults_in (suc k) t settled = t.faults

abbrev pub worns_in : ℕ → SessionView → Result (Unit {0}) SettleErr → List WornAnswer
worns_in zero t settled = t.worns ++ close_worns (length (flat_map lines_of t.own)) settled
worns_in (suc k) t settled = t.worns

-- What the close told of the logs as they are at their end: all that was claimed is on the drive,
-- and collection isn't due or the target is at rest; or not all of it is there, and the target is
-- at rest.
abbrev pub TellsClosed : Image → Logs → Result (Unit {0}) SettleErr → Type 0
TellsClosed i logs (Ok x) = (synced i.shape (logs 0) ≡ taken (logs 0))
    × ((is_due i logs ≡ false) ⊎ IsAtRest i logs 0 (length (logs 0)))
TellsClosed i logs (Err (errors.Worn wanted have)) = (wanted ≡ taken (logs 0))
    × IsWornFlush i logs (length (logs 0)) wanted have
TellsClosed i logs (Err (errors.Drive unit event)) = ⊤

-- A close that isn't refused for want of room, and leaves a tidy drive unless a command was
-- stopped.
abbrev pub IsTidyClose : Image → Logs → Result (Unit {0}) SettleErr → Type 0
IsTidyClose i logs (Ok x) = IsTidy (media i logs)
IsTidyClose i logs (Err (errors.Worn wanted have)) = ⊥
IsTidyClose i logs (Err (errors.Drive unit event)) = ⊤

-- Where what is found ends at the front synced: all that was taken is on the drive; or not all is,
-- and of what waits nothing had been placed before.
abbrev pub EndsAtSynced : Image → Logs → Result (Unit {0}) SettleErr → Type 0
EndsAtSynced i logs (Ok x) = ⊤
EndsAtSynced i logs (Err (errors.Worn wanted have)) = ArePlacedAgain i.shape (logs 0)
EndsAtSynced i logs (Err (errors.Drive unit event)) = ⊥

-- No command stands in these logs that was lost.
abbrev pub NoneLost : Logs → Type 0
NoneLost logs = (unit number : ℕ) (l : Logged) (e : UnitEvent) (maker : Maker) → slice_get (logs (suc unit)) number ≡ Some l → l.event ≡ Does e maker
    → is_drive_fault e ≡ false

-- A write has as many sectors as its place, and one at least.
abbrev pub AreWholeWrites : List OwnWrite → Type 0
AreWholeWrites own = AllByRecursion (λ w. (1 ≤ w.place.count) × (length w.sectors ≡ w.place.count)) own

-- What a ticket's session did, in the closed world.
pub record IsTold (i : Image) (handed : List ModelUnit) (world : World) (settled : Result (Unit {0}) SettleErr) (k : ℕ) (t : SessionView) : Type 0 where
  pub knew : (author : ℕ) → IsPrefix (logs_of t.worker.known author) (log_of world author)
  -- its writes are whole, and in their order
  pub whole : AreWholeWrites t.own
  pub rising : PlacesRise t.own
  -- all of them were taken
  pub all_taken : EndBelow (taken (log_of world 0)) t.own
  -- Each command that its worker lost was answered, in the order of the world's steps, and no
  -- other.
  pub faults : map (answer_at handed) (drive_faults_of k world) ≡ faults_in k t settled
  -- each Worn had its cause
  pub worns : WereRefused i (log_of world) t.own (taken (log_of world 0)) 0 (worns_in k t settled)

-- The first ticket's worker had the target to itself when it worked it off, and made so many pumps.
-- The engine's log is as they left it.
pub record WasWorkedOff (past : Past) (handed : List ModelUnit) (tickets : List SessionView) (world : World) : Type 0 where
  pub ticket : SessionView
  pub its : slice_get tickets 0 ≡ Some ticket
  pub last : WorkerView
  pub knew : (author : ℕ) → IsPrefix (logs_of last.known author) (log_of world author)
  pub own : logs_of last.known 0 ≡ log_of world 0
  pub pumps : ℕ
  pub settled : HasSettledAlone past.image handed ticket.worker last 0 pumps
  pub begun : 0 < length (logs_of settled.first.known 0)

-- A target was closed, with this answer: there is one world that is legal and goes on from the
-- mount's past, and the units are as it leaves them.
pub record IsClosed (past : Past) (key : Key) (handed : List ModelUnit) (wear : List (List ℕ)) (tickets : List SessionView) (workers : List WorkerView)
    (settled : Result (Unit {0}) SettleErr) (units : List ModelUnit) (worn : List (List ℕ)) : Type 0 where
  pub world : World
  pub legal : IsLegalMount past.image world
  pub begun : (author : ℕ) → IsPrefix (logs_of past.logs author) (log_of world author)
  pub count : length units ≡ length handed
  pub each : (number : ℕ) (u : ModelUnit) → slice_get units number ≡ Some u
      → (was : ModelUnit) × (slice_get handed number ≡ Some was) × IsArm past.image (log_of world) number was u
  pub as_worn : worn ≡ wear
  -- The history is made of the sessions' own writes, each at the place that its session was told.
  pub history : history_lines (log_of world 0) ≡ all_lines (by_place (writes_from 0 tickets))
  pub sessions : (k : ℕ) (t : SessionView) → slice_get tickets k ≡ Some t → IsTold past.image handed world settled k t
  -- Where there was one session, its refusals are exact: the sectors that it had written by then
  -- are all that users' writes had taken.
  pub alone : (t : SessionView) → tickets ≡ t ∷ [] → AreRefusals past.image (log_of world) 0 (worns_in 0 t settled)
  -- Of the other workers the lost commands are those of their lists, and nobody else lost one.
  pub numbered : HasMakers world
  pub others : (k : ℕ) (w : WorkerView) → slice_get workers k ≡ Some w → drive_faults_of (length tickets + k) world ≡ lost_places w.made
  pub others_knew : (k : ℕ) (w : WorkerView) → slice_get workers k ≡ Some w
      → (author : ℕ) → IsPrefix (logs_of w.known author) (log_of world author)
  pub nobody : (worker : ℕ) → length tickets + length workers ≤ worker → worker < 2 ^ 64 → drive_faults_of worker world ≡ []
  -- who has no number of 64 bits, as the opening, lost none where none was lost before the mount
  -- began
  pub nobody_late : NoneLost (logs_of past.logs) → (worker : ℕ) → 2 ^ 64 ≤ worker → drive_faults_of worker world ≡ []
  -- how many pumps it took
  pub worked_off : WasWorkedOff past handed tickets world
  -- what the close told
  pub tells : TellsClosed past.image (log_of world) settled
  -- All the engine did had its reason, and it did its work in its order. No line is left that may
  -- be freed.
  pub reasons : HasReasons past.image (log_of world)
  pub after_resets : AreAfterResets past.image (log_of world)
  pub opened_full : AreOpenedFull past.image (log_of world)
  pub none_was_left : NoneWasLeft past.image (log_of world)
  pub none_to_free : NoneToFree past.image (log_of world)
  -- What is now found on a drive that was sealed ends between the front synced and the front taken.
  -- It ends at the front synced where all is there. It does, too, at a close that answers Worn,
  -- unless an entry waits that had been placed before, in a stripe that was lost.
  pub from_synced : IsSealed past.image → synced past.image.shape (log_of world 0) ≤ end (media past.image (log_of world))
  pub to_taken : IsSealed past.image → end (media past.image (log_of world)) ≤ taken (log_of world 0)
  pub ends : IsSealed past.image → EndsAtSynced past.image (log_of world) settled
      → end (media past.image (log_of world)) ≡ synced past.image.shape (log_of world 0)
  -- Over a tidy drive, where no command failed and numbers are left, there was room, and the drive
  -- is tidy again.
  pub tidy : HasNoFailures (log_of world) → IsTidy past.image → HasNumbersLeft past.image.shape (log_of world 0)
      → taken (log_of world 0) + 16 ≤ position_limit (log_of world 0) → IsTidyClose past.image (log_of world) settled
