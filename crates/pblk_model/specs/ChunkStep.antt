-- What a chunk answers to a command, and what it is afterwards; and what it may be where the command fails, or
-- is stopped because the drive stops (Open-Channel SSD Specification 2.0, Chunk states, Vector commands).
use Rattle.std.specs.Prelude.{ℕ, ◌+◌, ◌*◌, ◌%◌, ◌<◌, ◌≤◌, ◌≡◌, ◌⊎◌, ◌==◌, ◌||◌, not, if◌then◌else◌, nat_lt, ⊤, List, ◌++◌, length, take, slice_get, Option, Some, None}
use Rattle.std.specs.List.{AllByRecursion}
use Rattle.pblk_model.specs.declared.shape.Shape.{Shape}
use Rattle.pblk_model.specs.declared.chunk.ChunkState.{ChunkState}
use Rattle.pblk_model.specs.declared.chunk.ChunkState.TheVariants as states
use Rattle.pblk_model.specs.declared.chunk.ChunkErr.{ChunkErr}
use Rattle.pblk_model.specs.declared.chunk.ChunkErr.TheVariants as errors
use Rattle.pblk_model.specs.Chunk.{Chunk, Block, IsBlock, pointer, free_chunk, offline_chunk, IsReadable}

pub data ChunkCommand : Type 0 where
  -- blocks, from a block on
  Write : ℕ → List Block → ChunkCommand
  Read : ℕ → ChunkCommand
  Reset : ChunkCommand

pub data ChunkAnswer : Type 0 where
  Done : ChunkAnswer
  Gave : Block → ChunkAnswer
  Empty : ChunkAnswer
  Refused : ChunkErr → ChunkAnswer

-- what a command writes are blocks of a drive of this shape
abbrev pub WritesBlocks : Shape → ChunkCommand → Type 0
WritesBlocks s (Write at blocks) = AllByRecursion (IsBlock s) blocks
WritesBlocks s (Read b) = ⊤
WritesBlocks s Reset = ⊤

-- Refusals, in the order in which they are judged.

-- of a write of n blocks at a block, where the write pointer is wp
abbrev pub place_refusal : Shape → ℕ → ℕ → ℕ → Option ChunkErr
place_refusal s wp at n = if not (at == wp) then Some errors.NotAtPointer
    else (if (n == 0) || not (n % s.ws_min == 0) then Some errors.NotMultiple
    else (if nat_lt s.clba (at + n) then Some errors.PastEnd else None))

abbrev pub write_refusal_in : Shape → ChunkState → ℕ → ℕ → ℕ → Option ChunkErr
write_refusal_in s states.Free wp at n = place_refusal s wp at n
write_refusal_in s states.Open wp at n = place_refusal s wp at n
write_refusal_in s states.Closed wp at n = Some errors.Closed
write_refusal_in s states.Offline wp at n = Some errors.Offline

abbrev pub read_refusal_in : Shape → ChunkState → ℕ → Option ChunkErr
read_refusal_in s states.Offline b = Some errors.Offline
read_refusal_in s states.Free b = if nat_lt b s.clba then None else Some errors.PastEnd
read_refusal_in s states.Open b = if nat_lt b s.clba then None else Some errors.PastEnd
read_refusal_in s states.Closed b = if nat_lt b s.clba then None else Some errors.PastEnd

abbrev pub reset_refusal_in : ChunkState → Option ChunkErr
reset_refusal_in states.Free = Some errors.NotResettable
reset_refusal_in states.Open = None
reset_refusal_in states.Closed = None
reset_refusal_in states.Offline = Some errors.NotResettable

-- which refusal a command gets, if any
abbrev pub refusal : Shape → Chunk → ChunkCommand → Option ChunkErr
refusal s c (Write at blocks) = write_refusal_in s c.state (pointer c) at (length blocks)
refusal s c (Read b) = read_refusal_in s c.state b
refusal s c Reset = reset_refusal_in c.state

-- What a command that is done leaves.

-- the chunk with blocks appended: Closed at its end, and Open before
abbrev pub appended : Shape → Chunk → List Block → Chunk
appended s c blocks = record {
  state = if nat_lt (pointer c + length blocks) s.clba then states.Open else states.Closed;
  blocks = c.blocks ++ blocks;
}

-- A chunk that was closed before its end by a failed write doesn't come back.
abbrev pub reset_in : Shape → ChunkState → ℕ → Chunk
reset_in s states.Free wp = free_chunk
reset_in s states.Open wp = free_chunk
reset_in s states.Closed wp = if wp == s.clba then free_chunk else offline_chunk
reset_in s states.Offline wp = offline_chunk

abbrev pub after_reset : Shape → Chunk → Chunk
after_reset s c = reset_in s c.state (pointer c)

-- One command: what it answers, from old to new.
abbrev pub ChunkStep : Shape → Chunk → ChunkCommand → ChunkAnswer → Chunk → Type 0
ChunkStep s old (Write at blocks) Done new = (refusal s old (Write at blocks) ≡ None) × (new ≡ appended s old blocks)
ChunkStep s old (Write at blocks) (Refused e) new = (refusal s old (Write at blocks) ≡ Some e) × (new ≡ old)
ChunkStep s old (Read b) (Gave block) new = (refusal s old (Read b) ≡ None) × IsReadable s old b × (slice_get old.blocks b ≡ Some block) × (new ≡ old)
ChunkStep s old (Read b) Empty new = (refusal s old (Read b) ≡ None) × (¬ IsReadable s old b) × (new ≡ old)
ChunkStep s old (Read b) (Refused e) new = (refusal s old (Read b) ≡ Some e) × (new ≡ old)
ChunkStep s old Reset Done new = (refusal s old Reset ≡ None) × (new ≡ after_reset s old)
ChunkStep s old Reset (Refused e) new = (refusal s old Reset ≡ Some e) × (new ≡ old)
-- no other answer is given
ChunkStep s old (Write at blocks) (Gave block) new = ⊥
ChunkStep s old (Write at blocks) Empty new = ⊥
ChunkStep s old (Read b) Done new = ⊥
ChunkStep s old Reset (Gave block) new = ⊥
ChunkStep s old Reset Empty new = ⊥

-- What a command that isn't refused leaves where it fails. A failed write appends k multiples of WS_MIN, fewer
-- than all, and closes the chunk; a failed reset takes it offline.
abbrev pub closed_after : Shape → Chunk → List Block → ℕ → Chunk
closed_after s c blocks k = record { state = states.Closed; blocks = c.blocks ++ take (k * s.ws_min) blocks }

abbrev pub ChunkFails : Shape → Chunk → ChunkCommand → Chunk → Type 0
ChunkFails s old (Write at blocks) new =
    (refusal s old (Write at blocks) ≡ None) × (k : ℕ) × (k * s.ws_min < length blocks) × (new ≡ closed_after s old blocks k)
ChunkFails s old (Read b) new = (refusal s old (Read b) ≡ None) × (new ≡ old)
ChunkFails s old Reset new = (refusal s old Reset ≡ None) × (new ≡ offline_chunk)

-- What a command leaves where the drive stops before it or within it: the chunk as it was, or, where the
-- command isn't refused, what it had done so far. A write appends k multiples of WS_MIN, up to all; a reset is
-- done.
abbrev pub StopsWithin : Shape → Chunk → ChunkCommand → Chunk → Type 0
StopsWithin s old (Write at blocks) new = (k : ℕ) × (0 < k) × (k * s.ws_min ≤ length blocks) × (new ≡ appended s old (take (k * s.ws_min) blocks))
StopsWithin s old (Read b) new = ⊥
StopsWithin s old Reset new = new ≡ after_reset s old

abbrev pub ChunkStops : Shape → Chunk → ChunkCommand → Chunk → Type 0
ChunkStops s old command new = (new ≡ old) ⊎ ((refusal s old command ≡ None) × StopsWithin s old command new)
