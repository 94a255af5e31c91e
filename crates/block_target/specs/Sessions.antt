-- What contracts see of a session, and what it keeps.
use Rattle.std.specs.Prelude.{ℕ, ◌+◌, ◌^◌, ◌<◌, ◌≤◌, ◌≡◌, ⊤, false, List, [], ◌∷◌, ◌++◌, map, max, take, drop, length, None, Some}
use Rattle.std.specs.List.{AllByRecursion, filter, flat_map}
use Rattle.atomic_table.specs.Seated.{TableId}
use Rattle.pblk_model.specs.Contents.{contents}
use Rattle.pblk_model.specs.Image.{Image}
use Rattle.pblk_model.specs.declared.ring.Claim.{Claim}
use Rattle.pblk_model.specs.declared.run.Place.{Place}
use Rattle.pblk_world.specs.EngineLog.{Taken}
use Rattle.pblk_world.specs.Events.{Logged}
use Rattle.pblk_world.specs.Fronts.{synced, taken, user_takes}
use Rattle.pblk_world.specs.Lines.{found_image}
use Rattle.pblk_world.specs.World.{Logs}
use Rattle.scan_recovery.specs.DriveFaults.{is_drive_fault}
use Rattle.unit_port.specs.Unit.{ModelUnit}
use Rattle.block_port.specs.Own.{OwnWrite, PlacedSector, lines_of}
use Rattle.block_port.specs.Port.{ModelPort, count_in, written_at}
use Rattle.block_port.specs.declared.rows.DriveAnswer.{DriveAnswer}
use Rattle.block_port.specs.declared.rows.WornAnswer.{WornAnswer}
use Rattle.write_ring.specs.Batches.{BatchView}
use Rattle.write_ring.specs.declared.seats.Pass.{Pass}
use Rattle.write_ring.specs.declared.view.Key.{Key}
use Rattle.write_ring.specs.declared.view.LastFound.{LastFound}
use Rattle.write_ring.specs.declared.view.Part.{Part}
use Rattle.write_ring.specs.declared.view.Row.{Row}
use Rattle.write_ring.specs.declared.view.View.{View}
use Rattle.chronicle.specs.Prefixes.{logs_of}
use Rattle.chronicle.specs.Views.{Past}
use Rattle.pblk_engine.specs.Arms.{number_told}
use Rattle.pblk_engine.specs.Endings.{IsPassIn}
use Rattle.pblk_engine.specs.Workers.{Made, WorkerView}
use Rattle.block_target.specs.Refusals.{IsRefusal}

-- Its worker, what its pass of the write ring has and what it found last, what the session has seen
-- as a position, its writes, and the calls that answered Drive and Worn.
pub record SessionView : Type 0 where
  pub worker : WorkerView
  pub part : Part
  pub found : LastFound
  pub seen : ℕ
  pub own : List OwnWrite
  pub faults : List DriveAnswer
  pub worns : List WornAnswer

abbrev pub session_view : WorkerView → View → ℕ → List OwnWrite → List DriveAnswer → List WornAnswer → SessionView
session_view worker pass seen own faults worns =
    record { worker = worker; part = pass.pass; found = pass.found; seen = seen; own = own; faults = faults; worns = worns }

-- The device.

-- the lines of the history that stand in the engine's log: the users' entries
abbrev pub line_of : Taken → PlacedSector
line_of t = record { position = t.entry.position; write = record { lba = t.entry.lba; sector = t.entry.sector } }

abbrev pub history_lines : List Logged → List PlacedSector
history_lines log = map line_of (user_takes log)

-- What a session knows of the history is what its worker knows of the engine's log. The contents at
-- the beginning are those that the mount found.
abbrev pub device : Past → List ModelUnit → List (List ℕ) → SessionView → ModelPort
device past handed wear s = record {
  start = contents (found_image past.image (logs_of past.logs));
  known = history_lines (logs_of s.worker.known 0);
  taken = taken (logs_of s.worker.known 0);
  seen = s.seen;
  own = s.own;
  flushed = synced past.image.shape (logs_of s.worker.known 0);
  faults = s.faults;
  worns = s.worns;
  capacity = past.image.shape.capacity;
  sector = past.image.shape.sector;
  footing = Some (record { handed = handed; image = past.image; wear = wear; seat = s.worker.number });
}

-- Its writes, and what its pass put.

abbrev pub row_of : PlacedSector → Row
row_of line = record { position = line.position; copy = false; lba = line.write.lba; source = None; sector = line.write.sector }

abbrev pub rows_of : List OwnWrite → List Row
rows_of own = map row_of (flat_map lines_of own)

abbrev pub claim_of : OwnWrite → Claim
claim_of w = record { first = w.place.first; count = w.place.count; copy = false }

-- The pass has one share of the ring. It has claimed the places of these writes and put their
-- sectors there, and nothing else. A write has as many sectors as its place, and one at least.
pub record IsPassOfOwn (own : List OwnWrite) (p : Part) : Type 0 where
  pub shares : p.shares ≡ 1
  pub claims : p.claims ≡ map claim_of own
  pub puts : p.puts ≡ rows_of own
  pub whole : AllByRecursion (λ w. (1 ≤ w.place.count) × (length w.sectors ≡ w.place.count)) own

-- each write ends at or below this position
abbrev pub EndBelow : ℕ → List OwnWrite → Type 0
EndBelow position own = AllByRecursion (λ w. w.place.first + w.place.count ≤ position) own

-- each write begins at or past this position
abbrev pub BeginPast : ℕ → List OwnWrite → Type 0
BeginPast position own = AllByRecursion (λ w. position ≤ w.place.first) own

-- each write begins at or past the end of those before it
abbrev pub PlacesRise : List OwnWrite → Type 0
PlacesRise [] = ⊤
PlacesRise (w ∷ own) = AllByRecursion (λ v. w.place.first + w.place.count ≤ v.place.first) own × PlacesRise own

-- What a write leaves that is answered a place at once. What was seen may be past it.
pub record IsPlacedAt (lba : ℕ) (bytes : List ℕ) (place : Place) (old new : ModelPort) : Type 0 where
  pub count : place.count ≡ count_in old (length bytes)
  pub own : new.own ≡ old.own ++ written_at old place lba bytes ∷ []
  pub seen : new.seen ≡ max old.seen (place.first + place.count)

-- The calls that answered Drive.

-- what an answer says of a command that was lost
abbrev pub answer_to : List ModelUnit → Made → DriveAnswer
answer_to handed m = record { unit = m.unit; event = number_told handed m.unit m.number }

-- the answers that tell of each command of these that was lost, in their order
abbrev pub faults_of : List ModelUnit → List Made → List DriveAnswer
faults_of handed made = map (answer_to handed) (filter (λ m. is_drive_fault m.event) made)

-- The calls that answered Worn.

-- An answer is one at this length of the engine's log. By then the session had made the first of
-- these writes, so many of them, and all of their sectors were taken. Those that it made since
-- begin past all that was taken by then. All of that lies below this position, as positions were
-- claimed up to there.
pub record WasRefused (i : Image) (logs : Logs) (own : List OwnWrite) (claimed n : ℕ) (a : WornAnswer) : Type 0 where
  pub count : ℕ
  pub made : count ≤ length own
  pub written : a.written ≡ length (flat_map lines_of (take count own))
  pub all_taken : EndBelow (taken (take n (logs 0))) (take count own)
  pub after : BeginPast (taken (take n (logs 0))) (drop count own)
  pub before : taken (take n (logs 0)) ≤ claimed
  pub cause : IsRefusal i logs n a.count a.wanted a.have

-- Each of these answers is one, in their order, at lengths that never fall.
abbrev pub WereRefused : Image → Logs → List OwnWrite → ℕ → ℕ → List WornAnswer → Type 0
WereRefused i logs own claimed from [] = ⊤
WereRefused i logs own claimed from (a ∷ worns) =
    (n : ℕ) × (from ≤ n) × WasRefused i logs own claimed n a × WereRefused i logs own claimed n worns

-- What a session keeps.

-- A batch of the ring's frames, of which so many are free and none is filled.
pub record IsFreeBatch (key : Key) (count : ℕ) (b : BatchView) : Type 0 where
  pub region : b.region ≡ key.origin.region
  pub free : b.free ≡ count
  pub empty : b.drafts ≡ []

-- what it has of the ring, and the drive's numbers
pub record IsHeld (ring : TableId) (past : Past) (key : Key) (pass : Pass) (batch : BatchView) (sectors bytes : ℕ) : Type 0 where
  pub its_ring : IsPassIn ring key pass
  pub first : key.first ≤ 2 ^ 62
  pub frames : IsFreeBatch key 16 batch
  pub capacity : sectors ≡ past.image.shape.capacity
  pub sector : bytes ≡ past.image.shape.sector

-- What it has seen is past its writes, and each write is past those before it. It has written so
-- many sectors. Each Drive tells of one command of its worker that was lost, and none is left out.
-- Each Worn had its cause, and all that was taken by then lies below the position up to which its
-- pass last found positions claimed.
pub record IsSession (past : Past) (handed : List ModelUnit) (count : ℕ) (s : SessionView) : Type 0 where
  pub part : IsPassOfOwn s.own s.part
  pub small : s.seen < 2 ^ 63
  pub past_own : EndBelow s.seen s.own
  pub rising : PlacesRise s.own
  pub written : count ≡ length (flat_map lines_of s.own)
  pub faults : s.faults ≡ faults_of handed s.worker.made
  pub worns : WereRefused past.image (logs_of s.worker.known) s.own s.found.claimed 0 s.worns
