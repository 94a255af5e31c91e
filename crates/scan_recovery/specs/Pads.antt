-- How the Open chunks of a drive are closed: they are padded to their ends, by line and then by
-- unit, in programs of Pad blocks that end at multiples of WS_OPT.
use Rattle.std.specs.Prelude.{ℕ, ◌+◌, ◌-◌, ◌*◌, ◌/◌, ◌<◌, ◌≡◌, ◌≢◌, ◌⊎◌, ⊤, true, false, List, [], ◌∷◌, ◌++◌, replicate, Some, Result, Ok, Err}
use Rattle.std.specs.List.{AllByRecursion}
use Rattle.std.specs.Option.{option_map_or}
use Rattle.pblk_model.specs.declared.shape.Shape.{Shape}
use Rattle.pblk_model.specs.declared.chunk.Mark.{Mark}
use Rattle.pblk_model.specs.declared.chunk.ChunkState.{ChunkState}
use Rattle.pblk_model.specs.declared.chunk.ChunkState.TheVariants.{Free, Open, Closed, Offline}
use Rattle.pblk_model.specs.Chunk.{Block, Chunk, pointer}
use Rattle.pblk_model.specs.ChunkStep.{Write}
use Rattle.pblk_model.specs.Marks.{pad_mark, pad_block}
use Rattle.pblk_model.specs.Image.{Image}
use Rattle.pblk_laws.specs.LineBlocks.{chunk_in}
use Rattle.unit_port.specs.Armed.{is_stop}
use Rattle.unit_port.specs.Unit.{ModelUnit}
use Rattle.unit_port.specs.Commands.{UnitCommand, EventAt, command_of, IsNext, after_one, after_all}
use Rattle.scan_recovery.specs.declared.error.ScanErr.{ScanErr}
use Rattle.scan_recovery.specs.declared.error.ScanErr.TheVariants as errors
use Rattle.scan_recovery.specs.Units.{image_of, IsLastEvent}

-- Pad blocks from a block of a chunk to the next multiple of WS_OPT
abbrev pub pads_from : Shape → ℕ → List Block
pads_from s at = replicate ((at / s.ws_opt + 1) * s.ws_opt - at) (pad_block s)

-- by line, and then by unit
abbrev pub IsBefore : ℕ → ℕ → ℕ → ℕ → Type 0
IsBefore line unit other_line other_unit = (line < other_line) ⊎ ((line ≡ other_line) × (unit < other_unit))

-- none of the chunks before this one is Open
abbrev pub NoneOpenBefore : Image → ℕ → ℕ → Type 0
NoneOpenBefore i line unit = (l u : ℕ) (c : Chunk) → IsBefore l u line unit → chunk_in i l u ≡ Some c → c.state ≢ Open

-- The program that comes next: of the first Open chunk, from its write pointer on.
pub record IsNextPad (s : Shape) (us : List ModelUnit) (c : UnitCommand) : Type 0 where
  pub found : Chunk
  pub there : chunk_in (image_of s us) c.chunk c.unit ≡ Some found
  pub is_open : found.state ≡ Open
  pub is_first : NoneOpenBefore (image_of s us) c.chunk c.unit
  pub command : c.command ≡ Write (pointer found) (pads_from s (pointer found))

-- the chunk is Open, with its write pointer here
pub record IsOpenAt (i : Image) (line unit at : ℕ) : Type 0 where
  pub found : Chunk
  pub there : chunk_in i line unit ≡ Some found
  pub is_open : found.state ≡ Open
  pub pointer_is : pointer found ≡ at

abbrev pub IsNotOpen : Image → ℕ → ℕ → Type 0
IsNotOpen i line unit = (c : Chunk) → chunk_in i line unit ≡ Some c → c.state ≢ Open

-- how many blocks an Open chunk lacks; none where it isn't Open
abbrev pub room_in : Shape → ChunkState → ℕ → ℕ
room_in s Free wp = 0
room_in s Open wp = s.clba - wp
room_in s Closed wp = 0
room_in s Offline wp = 0

abbrev pub room_at : Shape → Image → ℕ → ℕ → ℕ
room_at s i line unit = option_map_or (λ c. room_in s c.state (pointer c)) (chunk_in i line unit) 0

-- each event is one of the program that comes next by what those before it left
abbrev pub ArePads : Shape → List ModelUnit → List EventAt → Type 0
ArePads s us [] = ⊤
ArePads s us (e ∷ events) = IsNextPad s us (command_of e) × IsNext us e × ArePads s (after_one us e) events

abbrev pub IsQuiet : EventAt → Type 0
IsQuiet e = is_stop e.event.outcome ≡ false

-- A stop ends the padding, and is what the refusal names.
abbrev pub Ends : List ModelUnit → List EventAt → Result (Unit {0}) ScanErr → Type 0
Ends new events (Ok done) = AllByRecursion IsQuiet events
Ends new events (Err (errors.Drive unit number)) = (front : List EventAt) × (last : EventAt) × (events ≡ front ++ last ∷ [])
    × AllByRecursion IsQuiet front × (last.unit ≡ unit) × (is_stop last.event.outcome ≡ true) × IsLastEvent new unit number last.event
Ends new events (Err errors.Memory) = ⊥

-- the units after these events, and how the padding ended
pub record HasPadded (s : Shape) (old new : List ModelUnit) (events : List EventAt) (result : Result (Unit {0}) ScanErr) : Type 0 where
  pub pads : ArePads s old events
  pub units : new ≡ after_all old events
  pub ends : Ends new events result

-- they were padded by some events, and the padding ended so
abbrev pub WerePadded : Shape → List ModelUnit → List ModelUnit → Result (Unit {0}) ScanErr → Type 0
WerePadded s old new result = (events : List EventAt) × HasPadded s old new events result

-- a stripe of Pad blocks, as bytes and marks
pub record AreBlank (s : Shape) (bytes : List ℕ) (marks : List Mark) : Type 0 where
  pub bytes_are : bytes ≡ replicate (s.ws_opt * s.sector) 0
  pub marks_are : marks ≡ replicate s.ws_opt pad_mark
