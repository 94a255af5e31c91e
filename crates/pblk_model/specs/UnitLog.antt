-- What a unit's commands leave of its chunks: its log of programs, fetches and resets with their outcomes, and
-- the chunks after it; and what a stop of the drive may leave (Open-Channel SSD Specification 2.0, Vector
-- commands).
use Rattle.std.specs.Prelude.{ℕ, zero, suc, ◌*◌, ◌<◌, ◌≤◌, ◌≡◌, ◌⊎◌, ⊤, List, [], ◌∷◌, length, take, slice_get, slice_set, Option, Some, None}
use Rattle.std.specs.List.{fold}
use Rattle.std.specs.Option.{option_map_or}
use Rattle.pblk_model.specs.declared.shape.Shape.{Shape}
use Rattle.pblk_model.specs.Chunk.{Chunk, Block, offline_chunk}
use Rattle.pblk_model.specs.ChunkStep.{ChunkCommand, Write, Read, Reset, WritesBlocks, ChunkAnswer, Done, Gave, Empty, Refused, ChunkStep, ChunkStops, refusal, appended, after_reset, closed_after}

-- What became of a command. Of a write that failed or was stopped so many multiples of WS_MIN had landed. A
-- reset that was stopped was done where the number isn't 0. A read lands nothing.
pub data UnitOutcome : Type 0 where
  Answered : ChunkAnswer → UnitOutcome
  Failed : ℕ → UnitOutcome
  Stopped : ℕ → UnitOutcome

-- a command on a chunk with its outcome
pub record UnitEvent : Type 0 where
  pub chunk : ℕ
  pub command : ChunkCommand
  pub outcome : UnitOutcome

-- what is left of the chunk of a command by its outcome
abbrev pub landed : Shape → Chunk → List Block → ℕ → Chunk
landed s c blocks zero = c
landed s c blocks (suc k) = appended s c (take (suc k * s.ws_min) blocks)

abbrev pub reset_landed : Shape → Chunk → ℕ → Chunk
reset_landed s c zero = c
reset_landed s c (suc k) = after_reset s c

abbrev pub after_answer : Shape → Chunk → ChunkCommand → ChunkAnswer → Chunk
after_answer s c (Write at blocks) Done = appended s c blocks
after_answer s c (Write at blocks) (Gave block) = c
after_answer s c (Write at blocks) Empty = c
after_answer s c (Write at blocks) (Refused e) = c
after_answer s c (Read b) answer = c
after_answer s c Reset Done = after_reset s c
after_answer s c Reset (Gave block) = c
after_answer s c Reset Empty = c
after_answer s c Reset (Refused e) = c

abbrev pub after_outcome : Shape → Chunk → ChunkCommand → UnitOutcome → Chunk
after_outcome s c command (Answered answer) = after_answer s c command answer
after_outcome s c (Write at blocks) (Failed k) = closed_after s c blocks k
after_outcome s c (Read b) (Failed k) = c
after_outcome s c Reset (Failed k) = offline_chunk
after_outcome s c (Write at blocks) (Stopped k) = landed s c blocks k
after_outcome s c (Read b) (Stopped k) = c
after_outcome s c Reset (Stopped k) = reset_landed s c k

-- the unit's chunks after an event, and after a log
abbrev pub after_event : Shape → List Chunk → UnitEvent → List Chunk
after_event s chunks e = option_map_or (λ c. slice_set chunks e.chunk (after_outcome s c e.command e.outcome)) (slice_get chunks e.chunk) chunks

abbrev pub after_log : Shape → List Chunk → List UnitEvent → List Chunk
after_log s chunks log = fold (after_event s) chunks log

-- Which outcomes a command may have, by the chunk that it finds: an answer of the chunk table other than a
-- refusal, a failure, or a stop.
abbrev pub NotRefused : ChunkAnswer → Type 0
NotRefused Done = ⊤
NotRefused (Gave block) = ⊤
NotRefused Empty = ⊤
NotRefused (Refused e) = ⊥

abbrev pub IsOutcome : Shape → Chunk → ChunkCommand → UnitOutcome → Type 0
IsOutcome s c command (Answered answer) = NotRefused answer × ChunkStep s c command answer (after_answer s c command answer)
IsOutcome s c (Write at blocks) (Failed k) = (refusal s c (Write at blocks) ≡ None) × (k * s.ws_min < length blocks)
IsOutcome s c (Read b) (Failed k) = (refusal s c (Read b) ≡ None) × (k ≡ 0)
IsOutcome s c Reset (Failed k) = (refusal s c Reset ≡ None) × (k ≡ 0)
-- before a command, on any chunk
IsOutcome s c command (Stopped zero) = ⊤
-- within one that isn't refused
IsOutcome s c (Write at blocks) (Stopped (suc k)) = (refusal s c (Write at blocks) ≡ None) × (suc k * s.ws_min ≤ length blocks)
IsOutcome s c (Read b) (Stopped (suc k)) = ⊥
IsOutcome s c Reset (Stopped (suc k)) = refusal s c Reset ≡ None

pub record IsEvent (s : Shape) (chunks : List Chunk) (e : UnitEvent) : Type 0 where
  pub found : Chunk
  pub there : slice_get chunks e.chunk ≡ Some found
  -- what it writes are blocks of a drive of this shape
  pub blocks : WritesBlocks s e.command
  pub outcome : IsOutcome s found e.command e.outcome

-- A log over the chunks before it: its first event is one over them, and the rest is a log over what that
-- leaves.
unfoldable pub IsUnitLog : Shape → List Chunk → List UnitEvent → Type 0
IsUnitLog s chunks [] = ⊤
IsUnitLog s chunks (e ∷ log) = IsEvent s chunks e × IsUnitLog s (after_event s chunks e) log

-- What a stop of the drive may leave of a unit with at most one command in flight: its chunks as they were, or
-- with what that command had done so far.
pub record InFlight : Type 0 where
  pub chunk : ℕ
  pub command : ChunkCommand

abbrev pub IsCutWithin : Shape → List Chunk → InFlight → List Chunk → Type 0
IsCutWithin s chunks f left = (old new : Chunk) × (slice_get chunks f.chunk ≡ Some old) × ChunkStops s old f.command new × (left ≡ slice_set chunks f.chunk new)

abbrev pub IsCut : Shape → List Chunk → Option InFlight → List Chunk → Type 0
IsCut s chunks None left = left ≡ chunks
IsCut s chunks (Some f) left = (left ≡ chunks) ⊎ IsCutWithin s chunks f left
