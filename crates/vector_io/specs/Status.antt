-- The status of a vector's addresses, by the events that their commands became.
use Rattle.std.specs.Prelude.{ℕ, ◌≡◌, if◌then◌else◌, Bool, false, List, [], ◌∷◌, length, replicate, slice_index_or, Result}
use Rattle.std.specs.Int.{bit_at}
use Rattle.std.specs.List.{flat_map}
use Rattle.pblk_model.specs.declared.chunk.Got.{Got}
use Rattle.pblk_model.specs.Chunk.{Block}
use Rattle.pblk_model.specs.ChunkStep.{ChunkCommand, Write, Read, Reset, ChunkAnswer, Done, Gave, Empty, Refused}
use Rattle.pblk_model.specs.UnitLog.{UnitOutcome, Answered, Failed, Stopped}
use Rattle.unit_port.specs.declared.unit.UnitErr.{UnitErr}
use Rattle.unit_port.specs.Unit.{ModelUnit, TellsBlock}
use Rattle.unit_port.specs.Commands.{UnitCommand, EventAt, Ran}
use Rattle.unit_port.specs.Did.{Did, failed_or_stopped, is_empty}
use Rattle.vector_io.specs.declared.status.Status.{Status}

-- how many addresses a command has: a write has one for each block
abbrev pub width : ChunkCommand → ℕ
width (Write at blocks) = length blocks
width (Read b) = 1
width Reset = 1

-- a test of what became of its command, for each address
abbrev pub flags : (UnitOutcome → Bool) → List EventAt → List Bool
flags test events = flat_map (λ e. replicate (width e.event.command) (test e.event.outcome)) events

-- the bit with a flag's index is 1 exactly where the flag is set, and all further bits are 0
pub record HasBits (n : ℕ) (flags : List Bool) : Type 0 where
  pub bit : (i : ℕ) → bit_at n i ≡ (if slice_index_or flags i false then 1 else 0)

-- the bits of each address, by its index, say what became of its command
pub record Tells (status : Status) (events : List EventAt) : Type 0 where
  pub failed : HasBits status.failed (flags failed_or_stopped events)
  pub empty : HasBits status.empty (flags is_empty events)

-- units that were given these commands, and the status that was told of them
abbrev pub Answers : List UnitCommand → List ModelUnit → Status → List ModelUnit → Type 0
Answers commands old status new = (events : List EventAt) × Ran old commands events new × Tells status events

-- the block that an answer gives, or the one that was there before
abbrev pub answered_block : ChunkAnswer → Block → Block
answered_block Done old = old
answered_block (Gave block) old = block
answered_block Empty old = old
answered_block (Refused e) old = old

abbrev pub got_block : UnitOutcome → Block → Block
got_block (Answered answer) old = answered_block answer old
got_block (Failed k) old = old
got_block (Stopped k) old = old

-- blocks with what each event gave in the place of the one of its index
abbrev pub got_blocks : List EventAt → List Block → List Block
got_blocks [] blocks = blocks
got_blocks (e ∷ events) [] = []
got_blocks (e ∷ events) (block ∷ blocks) = got_block e.event.outcome block ∷ got_blocks events blocks

-- the same, and the blocks that were there before and after, in which stands what was read
abbrev pub Reads : List UnitCommand → List ModelUnit → Status → List ModelUnit → List Block → List Block → Type 0
Reads commands old status new before after = (events : List EventAt) × Ran old commands events new
    × Tells status events × (after ≡ got_blocks events before)

-- What one command of a vector became.

-- some event was what a program or a reset became, and says whether it failed or was stopped
abbrev pub WasDone : List ModelUnit → UnitCommand → Bool → List ModelUnit → Type 0
WasDone old c lost new = (e : EventAt) × Did old c e new
    × (lost ≡ failed_or_stopped e.event.outcome) × (is_empty e.event.outcome ≡ false)

-- the same of a fetch, which found these bytes in the caller's buffer and left those
abbrev pub WasFetched : List ModelUnit → UnitCommand → List ℕ → List ℕ → Result Got UnitErr → List ModelUnit
    → Type 0
WasFetched old c before after result new = (e : EventAt) × Did old c e new
    × TellsBlock before after result e.event.outcome

-- the same of a fetch, in whose place stood a block before and stands another after it
abbrev pub WasRead : List ModelUnit → UnitCommand → Bool → Bool → Block → Block → List ModelUnit → Type 0
WasRead old c lost empty before after new = (e : EventAt) × Did old c e new
    × (lost ≡ failed_or_stopped e.event.outcome) × (empty ≡ is_empty e.event.outcome)
    × (after ≡ got_block e.event.outcome before)
