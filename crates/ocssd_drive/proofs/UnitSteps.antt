-- A unit's command: the fault that its journal finds, the chunk that it meets, and the event that is noted.
use Rattle.std.proofs.Common.{◌≡◌, inl, inr, ℕ, true, List, [], ◌∷◌, ◌++◌, ◌<◌, vec_len, slice_get, slice_set, Some, None, refl, ap, ◌∙◌}
use Rattle.std.proofs.lemmas.List.{length-set, map-set}
use Rattle.std.proofs.lemmas.Option.{slice_get_within}
use Rattle.std.specs.Option.{IsSome}
use Rattle.std.specs.Vec.{with_item}
use Rattle.pblk_model.specs.declared.shape.Shape.{Shape}
use Rattle.pblk_model.specs.Chunk.{Chunk}
use Rattle.pblk_model.specs.ChunkStep.{ChunkCommand, Read, WritesBlocks, refusal}
use Rattle.pblk_model.specs.UnitLog.{UnitEvent, UnitOutcome, Stopped, after_event, after_outcome}
use Rattle.ocssd_chunks.specs.DriveChunk.{DriveChunk}
use Rattle.unit_port.specs.declared.armed.CommandKind.{CommandKind}
use Rattle.unit_port.specs.declared.armed.CommandKind.TheVariants as kinds
use Rattle.unit_port.specs.Armed.{events_since, has_stopped, is_fail, is_stop}
use Rattle.unit_port.specs.Unit.{ModelUnit, IsFitUnit, Takes, Steps}
use Rattle.ocssd_drive.specs.declared.fault.Fault.{Fault}
use Rattle.ocssd_drive.specs.declared.fault.Fault.TheVariants as faults
use Rattle.ocssd_drive.specs.declared.memory_unit.MemoryUnit.TheInside.{Inside}
use Rattle.ocssd_drive.specs.Faults.{fuse_is_at, IsOutcomeBy, fault_of, is_failing, is_stopping, kind_of}
use Rattle.ocssd_drive.specs.Arming.{IsLoaded, finds as found_by, seat_after}
use Rattle.ocssd_drive.specs.Planned.{IsPlanned}
use Rattle.ocssd_drive.specs.Journal.{JournalView}
use Rattle.ocssd_drive.specs.Outcomes.{IsByArms}
use Rattle.ocssd_drive.specs.Units.{WornUnit, IsChunkIn, TakesUnder, MeetsFault}
use Rattle.ocssd_drive.specs.UnitFields.{IsSound, worn_unit}
use Rattle.ocssd_drive.proofs.UnitChunks.{IsFound, chunks_of, chunk_within, chunk_there, fit}
use Rattle.pblk_model.proofs.Parts.{all_set, set_same}

-- what a journal finds befalls the next command of a kind
pub record Finds (old : JournalView) (kind : CommandKind) (fault : Fault) (new : JournalView) : Type 0 where
  pub log : new.log ≡ old.log
  pub armed : new.armed ≡ old.armed
  pub loaded : IsLoaded old.seat new.seat (found_by new.seat)
  pub is : fault ≡ fault_of old.armed (events_since old.armed old.log) (found_by new.seat) kind
  pub word : found_by new.seat ≡ true → IsSome old.armed.fuse
  pub stays : has_stopped old.armed old.log ≡ true → found_by new.seat ≡ true
  pub own : fuse_is_at old.armed ≡ true → found_by new.seat ≡ true → has_stopped old.armed old.log ≡ true

pub finds : (old : JournalView) (kind : CommandKind) (fault : Fault) (new : JournalView) → (new.log ≡ old.log) × (new.armed ≡ old.armed)
    → IsLoaded old.seat new.seat (found_by new.seat)
    → fault ≡ fault_of new.armed (events_since new.armed new.log) (found_by new.seat) kind → (found_by new.seat ≡ true → IsSome new.armed.fuse)
    → (has_stopped old.armed old.log ≡ true → found_by new.seat ≡ true)
    → (fuse_is_at old.armed ≡ true → found_by new.seat ≡ true → has_stopped old.armed old.log ≡ true) → Finds old kind fault new
finds old kind fault new same loaded is word stays own = record {
  own = own;
  loaded = loaded;
  log = same.0;
  armed = same.1;
  is = rw (same.0, same.1) at is;
  word = rw same.1 at word;
  stays = stays;
}

takes_any : (s : Shape) (c : Chunk) (command : ChunkCommand) (fault : Fault) → refusal s c command ≡ None → TakesUnder s c command fault
takes_any s c command faults.Nothing r = r
takes_any s c command (faults.Fails cut) r = r
takes_any s c command (faults.Stops cut) r = r
takes_any s c command faults.Stopped r = tt

-- the chunk that was found takes the command, unless the unit was stopped before
pub takes_under : (u : Inside) (chunk : ℕ) (command : ChunkCommand) (fault : Fault) (j : JournalView) (found : DriveChunk)
    (takes : Takes (worn_unit u).unit chunk command) → IsFound u chunk takes.found found → Finds u.journal (kind_of command) fault j
    → TakesUnder u.shape found.chunk command fault
takes_under u chunk command fault j found takes f befalls =
    elim takes.taken [
      | inl r ↦ rw f.same (takes_any u.shape takes.found command fault r)
      | inr stopped ↦ rw (befalls.is, befalls.stays stopped) tt
    ]

-- a command that is stopped as the unit was stopped before lands nothing
stays_stopped : (s : Shape) (command : ChunkCommand) (fault : Fault) (outcome : UnitOutcome) → fault ≡ faults.Stopped → IsOutcomeBy s command fault outcome
    → outcome ≡ Stopped 0
stays_stopped s command fault outcome is by = rw is at by

-- a chunk of a drive of this shape met it
pub met_in : (s t : Shape) (command : ChunkCommand) (fault : Fault) (outcome : UnitOutcome) (found left : DriveChunk) → t ≡ s
    → MeetsFault t found command fault outcome left → MeetsFault s found command fault outcome left
met_in s t command fault outcome found left same met = rw (← same) met

-- the event that is noted of a command
abbrev event_of : ℕ → ChunkCommand → UnitOutcome → UnitEvent
event_of chunk command outcome = record { chunk = chunk; command = command; outcome = outcome }

-- the unit with other chunks and another journal
abbrev pub after : Inside → List DriveChunk → JournalView → ModelUnit
after u chunks j = record { shape = u.shape; media = chunks_of chunks; log = j.log; armed = j.armed }

pub planned : (u : Inside) (chunk : ℕ) (command : ChunkCommand) (fault : Fault) (outcome : UnitOutcome) (j next : JournalView) (chunks : List DriveChunk)
    → Finds u.journal (kind_of command) fault j → IsOutcomeBy u.shape command fault outcome
    → next.log ≡ j.log ++ event_of chunk command outcome ∷ [] → next.seat ≡ seat_after fault j.seat
    → IsPlanned (worn_unit u) chunk command (record { unit = after u chunks next; wear = u.wear.items; seat = next.seat })
planned u chunk command fault outcome j next chunks befalls by noted seated = record {
  looked = j.seat;
  loaded = befalls.loaded;
  seat = rw befalls.is at seated;
  has_word = befalls.word;
  own = befalls.own;
  outcome = outcome;
  log = rw befalls.log at noted;
  by = rw befalls.is at by;
}

left_media : (s : Shape) (chunks : List DriveChunk) (chunk : ℕ) (command : ChunkCommand) (outcome : UnitOutcome) (found left : DriveChunk)
    → slice_get chunks chunk ≡ Some found → left.chunk ≡ after_outcome s found.chunk command outcome
    → chunks_of (slice_set chunks chunk left) ≡ after_event s (chunks_of chunks) (event_of chunk command outcome)
left_media s chunks chunk command outcome found left there is = rw (chunk_there chunks chunk found there, map-set, is) refl

pub steps : (u : Inside) (chunk : ℕ) (command : ChunkCommand) (fault : Fault) (outcome : UnitOutcome) (j next : JournalView) (c : Chunk)
    (found left : DriveChunk) → Finds u.journal (kind_of command) fault j → IsFound u chunk c found → MeetsFault u.shape found command fault outcome left
    → next.log ≡ j.log ++ event_of chunk command outcome ∷ [] → next.armed ≡ j.armed → WritesBlocks u.shape command
    → Steps (worn_unit u).unit chunk command outcome (after u (slice_set u.chunks.items chunk left) next)
steps u chunk command fault outcome j next c found left befalls f met noted armed blocks = record {
  event = record {
    found = found.chunk;
    there = chunk_there u.chunks.items chunk found f.there;
    blocks = blocks;
    outcome = met.told;
  };
  log = rw befalls.log at noted;
  media = left_media u.shape u.chunks.items chunk command outcome found left f.there met.after;
  stopped = λ stopped. stays_stopped u.shape command fault outcome (rw (befalls.stays stopped) at befalls.is) met.by;
  shape = refl;
  armed = armed ∙ befalls.armed;
}

-- a fetch leaves the chunks as they were
pub steps_reading : (u : Inside) (chunk block : ℕ) (fault : Fault) (outcome : UnitOutcome) (j next : JournalView) (c : Chunk) (found : DriveChunk)
    → Finds u.journal kinds.Fetch fault j → IsFound u chunk c found → MeetsFault u.shape found (Read block) fault outcome found
    → next.log ≡ j.log ++ event_of chunk (Read block) outcome ∷ [] → next.armed ≡ j.armed
    → Steps (worn_unit u).unit chunk (Read block) outcome (after u u.chunks.items next)
steps_reading u chunk block fault outcome j next c found befalls f met noted armed =
    rw (set_same u.chunks.items chunk found f.there) at (steps u chunk (Read block) fault outcome j next c found found befalls f met noted armed tt)

pub sound_after : (u : Inside) (chunk : ℕ) (left : DriveChunk) (next : JournalView) → IsSound u → IsChunkIn u.shape left → IsByArms u.shape next.armed next.log
    → IsSound (record { shape = u.shape; chunks = with_item u.chunks chunk left; wear = u.wear; journal = next })
sound_after u chunk left next sound one by = record {
  accepted = sound.accepted;
  count = length-set u.chunks.items chunk left ∙ sound.count;
  chunks = all_set (IsChunkIn u.shape) u.chunks.items chunk left sound.chunks one;
  worn = sound.worn;
  worn_fits = sound.worn_fits;
  by_arms = by;
}

pub fit_with : (u : Inside) (next : JournalView) → IsSound u → IsFitUnit (after u u.chunks.items next)
fit_with u next sound = record { count = (fit u sound).count; chunks = (fit u sound).chunks }

pub sound_with : (u : Inside) (next : JournalView) → IsSound u → IsByArms u.shape next.armed next.log
    → IsSound (record { shape = u.shape; chunks = u.chunks; wear = u.wear; journal = next })
sound_with u next sound by = record {
  accepted = sound.accepted;
  count = sound.count;
  chunks = sound.chunks;
  worn = sound.worn;
  worn_fits = sound.worn_fits;
  by_arms = by;
}

-- the chunk that a command names is there
pub command_within : (u : Inside) (v : WornUnit) (chunk : ℕ) (command : ChunkCommand) → worn_unit u ≡ v → Takes v.unit chunk command → chunk < vec_len u.chunks
command_within u v chunk command is takes = chunk_within u v chunk is (slice_get_within v.unit.media chunk takes.found takes.there)

-- an outcome by a fault fails where the fault is a failure, and is stopped where it is a stop
pub fails_by : (s : Shape) (command : ChunkCommand) (fault : Fault) (outcome : UnitOutcome) → IsOutcomeBy s command fault outcome
    → is_fail outcome ≡ is_failing fault
fails_by s command faults.Nothing outcome by = ap is_fail by.1
fails_by s command (faults.Fails cut) outcome by = ap is_fail by
fails_by s command (faults.Stops cut) outcome by = ap is_fail by
fails_by s command faults.Stopped outcome by = ap is_fail by

pub stops_by : (s : Shape) (command : ChunkCommand) (fault : Fault) (outcome : UnitOutcome) → IsOutcomeBy s command fault outcome
    → is_stop outcome ≡ is_stopping fault
stops_by s command faults.Nothing outcome by = ap is_stop by.1
stops_by s command (faults.Fails cut) outcome by = ap is_stop by
stops_by s command (faults.Stops cut) outcome by = ap is_stop by
stops_by s command faults.Stopped outcome by = ap is_stop by

pub fit_after : (u : Inside) (chunk : ℕ) (left : DriveChunk) (next : JournalView) → IsSound u → IsChunkIn u.shape left → IsByArms u.shape next.armed next.log
    → IsFitUnit (after u (slice_set u.chunks.items chunk left) next)
fit_after u chunk left next sound one by = fit _ (sound_after u chunk left next sound one by)
