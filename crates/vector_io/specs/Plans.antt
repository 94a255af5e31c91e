-- Which commands a vector's addresses are.
use Rattle.std.specs.Prelude.{ℕ, ◌+◌, ◌*◌, ◌/◌, ◌<◌, ◌≡◌, ◌==◌, ◌&&◌, if◌then◌else◌, Bool, List, [], ◌∷◌, length, map, slice_get, Some}
use Rattle.pblk_model.specs.declared.shape.Address.{Address}
use Rattle.pblk_model.specs.declared.chunk.Mark.{Mark}
use Rattle.pblk_model.specs.Blocks.{blocks_of}
use Rattle.pblk_model.specs.Chunk.{Block}
use Rattle.pblk_model.specs.ChunkStep.{Write, Read, Reset}
use Rattle.pblk_model.specs.Geometry.{Geometry}
use Rattle.unit_port.specs.Unit.{ModelUnit}
use Rattle.unit_port.specs.Commands.{UnitCommand}

-- the number of an address's unit
abbrev pub unit_of : Geometry → Address → ℕ
unit_of g a = a.group * g.pus + a.pu

-- Resets: of each address's chunk.

abbrev pub reset_of : Geometry → Address → UnitCommand
reset_of g a = record { unit = unit_of g a; chunk = a.chunk; command = Reset }

abbrev pub resets : Geometry → List Address → List UnitCommand
resets g addresses = map (reset_of g) addresses

-- all are the first blocks of their chunks
abbrev pub AreFirstBlocks : List Address → Type 0
AreFirstBlocks addresses = (i : ℕ) (a : Address) → slice_get addresses i ≡ Some a → a.block ≡ 0

-- Reads: of each address's block.

abbrev pub read_of : Geometry → Address → UnitCommand
read_of g a = record { unit = unit_of g a; chunk = a.chunk; command = Read a.block }

abbrev pub reads : Geometry → List Address → List UnitCommand
reads g addresses = map (read_of g) addresses

-- Writes: addresses that go on, block after block of a chunk, are one program.

-- the program of some blocks from an address on
pub record Program : Type 0 where
  pub unit : ℕ
  pub chunk : ℕ
  pub at : ℕ
  pub blocks : List Block

abbrev pub program_of : Geometry → Address → List Block → Program
program_of g a blocks = record { unit = unit_of g a; chunk = a.chunk; at = a.block; blocks = blocks }

-- the program begins right behind the address
abbrev pub goes_on : Geometry → Address → Program → Bool
goes_on g a p = (unit_of g a == p.unit) && (a.chunk == p.chunk) && (a.block + 1 == p.at)

-- programs of what follows, with one address and its block before
abbrev pub with_first : Geometry → Address → Block → List Program → List Program
with_first g a block [] = program_of g a (block ∷ []) ∷ []
with_first g a block (p ∷ programs) = if goes_on g a p then program_of g a (block ∷ p.blocks) ∷ programs
    else program_of g a (block ∷ []) ∷ p ∷ programs

-- the programs of addresses, each with its block
abbrev pub programs : Geometry → List Address → List Block → List Program
programs g [] blocks = []
programs g (a ∷ addresses) [] = []
programs g (a ∷ addresses) (block ∷ blocks) = with_first g a block (programs g addresses blocks)

abbrev pub write_of : Program → UnitCommand
write_of p = record { unit = p.unit; chunk = p.chunk; command = Write p.at p.blocks }

abbrev pub writes : Geometry → List Address → List Block → List UnitCommand
writes g addresses blocks = map write_of (programs g addresses blocks)

-- a block, and where it is written: the unit, the chunk, and the number of the block
pub record PlacedBlock : Type 0 where
  pub unit : ℕ
  pub chunk : ℕ
  pub number : ℕ
  pub block : Block

-- blocks of a chunk from a number on
abbrev pub placed_from : ℕ → ℕ → ℕ → List Block → List PlacedBlock
placed_from unit chunk number [] = []
placed_from unit chunk number (block ∷ blocks) =
    record { unit = unit; chunk = chunk; number = number; block = block }
    ∷ placed_from unit chunk (number + 1) blocks

-- the blocks of a program
abbrev pub placed_by : Program → List PlacedBlock
placed_by p = placed_from p.unit p.chunk p.at p.blocks

-- addresses, each with its block
abbrev pub placed_at : Geometry → List Address → List Block → List PlacedBlock
placed_at g [] blocks = []
placed_at g (a ∷ addresses) [] = []
placed_at g (a ∷ addresses) (block ∷ blocks) =
    record { unit = unit_of g a; chunk = a.chunk; number = a.block; block = block }
    ∷ placed_at g addresses blocks

-- bytes cut into as many sectors as there are marks, each with its mark
abbrev pub blocks_in : List ℕ → List Mark → List Block
blocks_in bytes marks = blocks_of (length bytes / length marks) bytes marks

-- a sector of each unit's drive has as many bytes as one of those cut into so many
abbrev pub HaveSectors : ℕ → ℕ → List ModelUnit → Type 0
HaveSectors size count units = (i : ℕ) (u : ModelUnit) → slice_get units i ≡ Some u
    → size ≡ count * u.shape.sector

-- no two of the commands are of one chunk
abbrev pub AreOfChunksApart : List UnitCommand → Type 0
AreOfChunksApart commands = (i j : ℕ) (c d : UnitCommand) → i < j
    → slice_get commands i ≡ Some c → slice_get commands j ≡ Some d
    → c.unit ≡ d.unit → c.chunk ≡ d.chunk → ⊥
