-- Units in memory.
use Rattle.std.specs.Prelude.{ℕ, ◌%◌, ◌<◌, ◌≤◌, ◌≡◌, List, [], map, length, replicate, slice_set, Option, None}
use Rattle.std.specs.List.{AllByRecursion, zip}
use Rattle.pblk_model.specs.declared.shape.Shape.{Shape}
use Rattle.pblk_model.specs.Chunk.{Block, Chunk, IsChunk, free_chunk}
use Rattle.pblk_model.specs.declared.chunk.ChunkState.{ChunkState}
use Rattle.pblk_model.specs.ChunkStep.{ChunkCommand, refusal}
use Rattle.pblk_model.specs.UnitLog.{UnitOutcome, IsOutcome, after_outcome}
use Rattle.pblk_model.specs.ImageFile.{StoredChunk}
use Rattle.ocssd_chunks.specs.DriveChunk.{DriveChunk}
use Rattle.unit_port.specs.Armed.{Armed, unarmed}
use Rattle.unit_port.specs.Unit.{ModelUnit, IsFitUnit}
use Rattle.ocssd_drive.specs.declared.fault.Fault.{Fault}
use Rattle.ocssd_drive.specs.declared.fault.Fault.TheVariants as faults
use Rattle.ocssd_drive.specs.StopWord.{SeatView}
use Rattle.ocssd_drive.specs.Faults.{IsOutcomeBy}

-- a unit, the wear index of each of its chunks, and its seat at the stop word, where its drive was armed with a fuse
pub record WornUnit : Type 0 where
  pub unit : ModelUnit
  pub wear : List ℕ
  pub seat : Option SeatView

-- Free chunks that aren't worn, an empty log, and not armed
abbrev pub new_unit : Shape → WornUnit
new_unit s = record {
  unit = record { shape = s; media = replicate s.chunks free_chunk; log = []; armed = unarmed 0 };
  wear = replicate s.chunks 0;
  seat = None;
}

-- the unit with other arms
abbrev pub with_arms : Armed → Option SeatView → WornUnit → WornUnit
with_arms a seat u = record {
  unit = record { shape = u.unit.shape; media = u.unit.media; log = u.unit.log; armed = a };
  wear = u.wear;
  seat = seat;
}

-- a chunk in this state with these blocks, and its wear index
abbrev pub worn_chunk : ChunkState → List Block → ℕ → StoredChunk
worn_chunk state blocks wear = record { chunk = record { state = state; blocks = blocks }; wear = wear }

-- the unit with this chunk and wear index at a place
abbrev pub with_stored : ℕ → StoredChunk → WornUnit → WornUnit
with_stored at k u = record {
  unit = record { shape = u.unit.shape; media = slice_set u.unit.media at k.chunk; log = u.unit.log; armed = u.unit.armed };
  wear = slice_set u.wear at k.wear;
  seat = u.seat;
}

-- the unit with this chunk at a place, whose wear index stays
abbrev pub with_chunk : ℕ → Chunk → WornUnit → WornUnit
with_chunk at c u = record {
  unit = record { shape = u.unit.shape; media = slice_set u.unit.media at c; log = u.unit.log; armed = u.unit.armed };
  wear = u.wear;
  seat = u.seat;
}

-- its chunks with their wear indices
abbrev pub stored_chunks : WornUnit → List StoredChunk
stored_chunks u = map (λ (p : Chunk × ℕ). record { chunk = p.0; wear = p.1 }) (zip u.unit.media u.wear)

-- a unit of a drive of this shape, with a wear index of a byte for each chunk
pub record IsUnitOf (s : Shape) (u : WornUnit) : Type 0 where
  pub shape : u.unit.shape ≡ s
  pub fits : IsFitUnit u.unit
  pub worn : length u.wear ≡ s.chunks
  pub worn_fits : AllByRecursion (λ w. w < 256) u.wear

-- without plans and fuse
abbrev pub disarmed : WornUnit → WornUnit
disarmed u = with_arms (unarmed (length u.unit.log)) None u

-- a chunk of a drive of this shape
pub record IsChunkIn (s : Shape) (c : DriveChunk) : Type 0 where
  pub shape : c.shape ≡ s
  pub fits : IsChunk s c.chunk

-- a write of n blocks that a chunk may take
pub record IsWrite (s : Shape) (n : ℕ) : Type 0 where
  pub some : 0 < n
  pub multiple : n % s.ws_min ≡ 0
  pub within : n ≤ s.clba

-- the chunk takes the command that meets this fault, unless the drive was stopped before
abbrev pub TakesUnder : Shape → Chunk → ChunkCommand → Fault → Type 0
TakesUnder s c command faults.Nothing = refusal s c command ≡ None
TakesUnder s c command (faults.Fails cut) = refusal s c command ≡ None
TakesUnder s c command (faults.Stops cut) = refusal s c command ≡ None
TakesUnder s c command faults.Stopped = Unit {0}

-- What a command that met this fault made of its chunk: the outcome is by the fault, it is one over the chunk that was
-- found, and the chunk is left as it says.
pub record MeetsFault (s : Shape) (found : DriveChunk) (command : ChunkCommand) (fault : Fault) (outcome : UnitOutcome) (left : DriveChunk) : Type 0 where
  pub by : IsOutcomeBy s command fault outcome
  pub told : IsOutcome s found.chunk command outcome
  pub after : left.chunk ≡ after_outcome s found.chunk command outcome
  pub fits : IsChunkIn s left
