-- A world on the blank small drive: a sector is taken, a line is opened for it, and the start record and then the sector,
-- with three pads, are placed and land.
use Rattle.std.specs.Prelude.{ℕ, List, [], ◌∷◌, None}
use Rattle.pblk_model.specs.Shape.{small}
use Rattle.pblk_model.specs.Chunk.{Block}
use Rattle.pblk_model.specs.ChunkStep.{Done}
use Rattle.pblk_model.specs.UnitLog.{Answered}
use Rattle.pblk_model.specs.Marks.{sector_mark, pad_block}
use Rattle.pblk_model.specs.StartRecord.{StartRecord, start_bytes}
use Rattle.pblk_world.specs.Events.{Entry, Stripe, Begin, Take, Open, Place, Landed, Step}
use Rattle.pblk_world.specs.World.{World}
use Rattle.world_tests.specs.Steps.{engine_step, unit_step, program_of, meta_blocks, sector, sector_block}

-- The start record of line 0, and its four blocks.
abbrev pub start : StartRecord
start = record { line = 0; width = 2; seq = 1; first_seq = 1; front = 0; capacity = 64; rows = [] }

unfoldable pub spelling : List ℕ
spelling = start_bytes small start

abbrev pub start_stripe : Stripe
start_stripe = record { line = 0; unit = 0; chunk = 0; at = 0; blocks = meta_blocks 1 spelling }

-- The sector, and its stripe.
abbrev pub entry : Entry
entry = record { position = 0; lba = 5; source = None; sector = sector }

abbrev pub data_blocks : List Block
data_blocks = sector_block 0 ∷ pad_block small ∷ pad_block small ∷ pad_block small ∷ []

abbrev pub data_stripe : Stripe
data_stripe = record { line = 0; unit = 1; chunk = 0; at = 0; blocks = data_blocks }

-- The steps, and the worlds, each one step longer than that before it.
abbrev pub begin_step : Step
begin_step = engine_step (Begin (record { first = 0; seq = 1; strays = [] })) (0 ∷ 0 ∷ 0 ∷ [])

abbrev pub begun_world : World
begun_world = begin_step ∷ []

abbrev pub take_step : Step
take_step = engine_step (Take entry (sector_mark 5 0)) (1 ∷ 0 ∷ 0 ∷ [])

abbrev pub taken_world : World
taken_world = take_step ∷ begun_world

abbrev pub open_step : Step
open_step = engine_step (Open 0 start) (2 ∷ 0 ∷ 0 ∷ [])

abbrev pub opened_world : World
opened_world = open_step ∷ taken_world

abbrev pub place_start : Step
place_start = engine_step (Place start_stripe) (3 ∷ 0 ∷ 0 ∷ [])

abbrev pub start_placed : World
start_placed = place_start ∷ opened_world

abbrev pub write_start : Step
write_start = unit_step 1 (program_of start_stripe (Answered Done)) 0 (4 ∷ 0 ∷ 0 ∷ [])

abbrev pub start_written : World
start_written = write_start ∷ start_placed

abbrev pub land_start : Step
land_start = engine_step (Landed 0 0) (4 ∷ 1 ∷ 0 ∷ [])

abbrev pub start_landed : World
start_landed = land_start ∷ start_written

abbrev pub place_data : Step
place_data = engine_step (Place data_stripe) (5 ∷ 1 ∷ 0 ∷ [])

abbrev pub data_placed : World
data_placed = place_data ∷ start_landed

abbrev pub write_data : Step
write_data = unit_step 2 (program_of data_stripe (Answered Done)) 1 (6 ∷ 1 ∷ 0 ∷ [])

abbrev pub data_written : World
data_written = write_data ∷ data_placed

abbrev pub land_data : Step
land_data = engine_step (Landed 1 0) (6 ∷ 1 ∷ 1 ∷ [])

abbrev pub simple_world : World
simple_world = land_data ∷ data_written
