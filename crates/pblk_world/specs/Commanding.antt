-- What a unit may do: the commands that may be made of it, and what may become of them.
use Rattle.std.specs.Prelude.{ℕ, suc, ◌+◌, ◌%◌, ◌≡◌, ◌⊎◌, ◌==◌, ◌&&◌, not, nat_lt, Bool, true, false, ⊤, List, length, slice_get, Option, Some, None}
use Rattle.std.specs.List.{AllByRecursion, filter, list_any}
use Rattle.std.specs.Option.{option_map_or}
use Rattle.pblk_model.specs.declared.chunk.ChunkState.TheVariants as states
use Rattle.pblk_model.specs.Chunk.{Chunk, Block, pointer}
use Rattle.pblk_model.specs.ChunkStep.{ChunkCommand, Write, Read, Reset}
use Rattle.pblk_model.specs.UnitLog.{UnitOutcome, Answered, Failed, Stopped, UnitEvent, IsEvent}
use Rattle.pblk_model.specs.Marks.{pad_block}
use Rattle.pblk_model.specs.Found.{IsUsed}
use Rattle.pblk_model.specs.Image.{Image}
use Rattle.pblk_world.specs.Events.{Logged}
use Rattle.pblk_world.specs.World.{Logs, knows_engine, unit_event_of, unit_events, media}
use Rattle.pblk_world.specs.EngineLog.{Begun, begun, Placed, placed_on}
use Rattle.pblk_world.specs.Lines.{is_given_up}

-- Commands and outcomes.

abbrev pub is_program : ChunkCommand → Bool
is_program (Write at blocks) = true
is_program (Read b) = false
is_program Reset = false

abbrev pub is_reset : ChunkCommand → Bool
is_reset (Write at blocks) = false
is_reset (Read b) = false
is_reset Reset = true

abbrev pub was_stopped : UnitOutcome → Bool
was_stopped (Answered answer) = false
was_stopped (Failed k) = false
was_stopped (Stopped k) = true

-- Programs of stripes: those that the unit's author made once it knew of the mount's beginning.

abbrev pub ends_program : UnitEvent → Bool
ends_program e = is_program e.command && not (was_stopped e.outcome)

-- it is a program of a stripe, done or failed
abbrev pub ends_stripe : Logged → Bool
ends_stripe l = nat_lt 0 (knows_engine l) && option_map_or ends_program (unit_event_of l.event) false

-- how many stripes a unit's log is done with
abbrev pub ended_stripes : List Logged → ℕ
ended_stripes log = length (filter ends_stripe log)

-- some event of the log was stopped
abbrev pub has_stopped : List UnitEvent → Bool
has_stopped log = list_any (λ e. was_stopped e.outcome) log

-- Before the mount begins.

-- Pad blocks at the pointer of an Open chunk, up to a multiple of WS_OPT
pub record IsPadding (i : Image) (c : Chunk) (at : ℕ) (blocks : List Block) : Type 0 where
  pub is_open : c.state ≡ states.Open
  pub at_pointer : at ≡ pointer c
  pub pads : AllByRecursion (λ b. b ≡ pad_block i.shape) blocks
  pub whole : (at + length blocks) % i.shape.ws_opt ≡ 0

-- After it.

-- the earliest stripe placed on the unit whose program is neither done nor failed in the unit's log
pub record IsStripe (logs : Logs) (unit chunk at : ℕ) (blocks : List Block) : Type 0 where
  pub placed : Placed
  pub earliest : slice_get (placed_on (logs 0) unit) (ended_stripes (logs (suc unit))) ≡ Some placed
  pub its_chunk : chunk ≡ placed.stripe.chunk
  pub its_place : at ≡ placed.stripe.at
  pub its_blocks : blocks ≡ placed.stripe.blocks

-- a reset of the chunk was stopped
abbrev pub is_stopped_reset : ℕ → UnitEvent → Bool
is_stopped_reset chunk e = (e.chunk == chunk) && is_reset e.command && was_stopped e.outcome

-- A chunk of a line that was freed, or is a stray, and that wasn't opened since. The chunk holds
-- something, unless its reset was stopped.
pub record IsGivenUp (logs : Logs) (unit : ℕ) (c : Chunk) (chunk : ℕ) : Type 0 where
  pub line : is_given_up (logs 0) chunk ≡ true
  pub used : IsUsed c.state ⊎ (list_any (is_stopped_reset chunk) (unit_events logs unit) ≡ true)

abbrev pub IsCommand : Image → Logs → ℕ → Chunk → ℕ → ChunkCommand → Option Begun → Type 0
IsCommand i logs unit c chunk (Write at blocks) None = IsPadding i c at blocks
IsCommand i logs unit c chunk (Read b) None = ⊤
IsCommand i logs unit c chunk Reset None = ⊥
IsCommand i logs unit c chunk (Write at blocks) (Some beginning) = IsStripe logs unit chunk at blocks
IsCommand i logs unit c chunk (Read b) (Some beginning) = ⊤
IsCommand i logs unit c chunk Reset (Some beginning) = IsGivenUp logs unit c chunk

pub record MayDo (i : Image) (logs : Logs) (unit : ℕ) (e : UnitEvent) : Type 0 where
  -- the unit's chunks, as its log leaves them
  pub chunks : List Chunk
  pub has_chunks : slice_get (media i logs).units unit ≡ Some chunks
  -- the command and its outcome are one of the chunk table, a failure, or a stop
  pub event : IsEvent i.shape chunks e
  -- after a stop all is stopped, and leaves nothing
  pub stopped : has_stopped (unit_events logs unit) ≡ true → e.outcome ≡ Stopped 0
  pub command : IsCommand i logs unit event.found e.chunk e.command (begun (logs 0))
