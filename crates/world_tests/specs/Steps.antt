-- How steps of worlds are written here: on the blank small drive, whose three logs are the engine's and those of two units.
use Rattle.std.specs.Prelude.{ℕ, List, [], ◌∷◌, take, drop, replicate}
use Rattle.pblk_model.specs.Shape.{small}
use Rattle.pblk_model.specs.Chunk.{Block}
use Rattle.pblk_model.specs.ChunkStep.{Write}
use Rattle.pblk_model.specs.UnitLog.{UnitEvent, UnitOutcome}
use Rattle.pblk_model.specs.Marks.{sector_mark, meta_mark}
use Rattle.pblk_model.specs.Image.{Image, blank}
use Rattle.pblk_world.specs.Events.{Stripe, EngineEvent, Decides, Does, Step}

abbrev pub image : Image
image = blank small

-- an event of the engine, and one of a unit, with the lengths that were known of the three logs
abbrev pub engine_step : EngineEvent → List ℕ → Step
engine_step e knows = record { author = 0; logged = record { event = Decides e; knows = knows } }

abbrev pub unit_step : ℕ → UnitEvent → ℕ → List ℕ → Step
unit_step author e made knows = record {
  author = author;
  logged = record { event = Does e (record { worker = 1; made = made }); knows = knows };
}

-- the program of a stripe, with its outcome
abbrev pub program_of : Stripe → UnitOutcome → UnitEvent
program_of s outcome = record { chunk = s.chunk; command = Write s.at s.blocks; outcome = outcome }

-- a block of a start record, whose sector is the first of these bytes
abbrev pub meta_block : ℕ → List ℕ → Block
meta_block seq bytes = record { sector = take 512 bytes; mark = meta_mark seq }

abbrev pub meta_blocks : ℕ → List ℕ → List Block
meta_blocks seq bytes = meta_block seq bytes ∷ meta_block seq (drop 512 bytes) ∷ meta_block seq (drop 512 (drop 512 bytes))
    ∷ meta_block seq (drop 512 (drop 512 (drop 512 bytes))) ∷ []

-- a user's sector
unfoldable pub sector : List ℕ
sector = replicate 512 7

-- of the sector 5, at this position
abbrev pub sector_block : ℕ → Block
sector_block position = record { sector = sector; mark = sector_mark 5 position }
