-- A world on the blank small drive: the start record of a line fails, and then a pad of its other chunk, so the line is
-- freed once the next line's start record has landed, and a chunk of it is reset. A sector is written in the next line and
-- copied; a second copy of it is stale.
use Rattle.std.specs.Prelude.{ℕ, List, [], ◌∷◌, replicate, Some}
use Rattle.pblk_model.specs.Shape.{small}
use Rattle.pblk_model.specs.ChunkStep.{Reset, Done}
use Rattle.pblk_model.specs.UnitLog.{UnitEvent, Answered, Failed}
use Rattle.pblk_model.specs.Marks.{sector_mark, void_mark, pad_block}
use Rattle.pblk_model.specs.StartRecord.{StartRecord, start_bytes}
use Rattle.pblk_world.specs.Events.{Source, Entry, Stripe, Take, Open, Place, Landed, Lost, ResetDone, Free, Step}
use Rattle.pblk_world.specs.World.{World}
use Rattle.world_tests.specs.Steps.{engine_step, unit_step, program_of, meta_blocks, sector}
use Rattle.world_tests.specs.Simple.{start_stripe, data_blocks, start_placed}

-- after the start record of line 0 was placed

abbrev pub fail_start : Step
fail_start = unit_step 1 (program_of start_stripe (Failed 0)) 0 (4 ∷ 0 ∷ 0 ∷ [])

abbrev pub lose_start : Step
lose_start = engine_step (Lost 0 0) (4 ∷ 1 ∷ 0 ∷ [])

abbrev pub start_lost : World
start_lost = lose_start ∷ fail_start ∷ start_placed

abbrev pub pad_stripe : Stripe
pad_stripe = record { line = 0; unit = 1; chunk = 0; at = 0; blocks = replicate 4 (pad_block small) }

abbrev pub place_pad : Step
place_pad = engine_step (Place pad_stripe) (5 ∷ 1 ∷ 0 ∷ [])

abbrev pub pad_placed : World
pad_placed = place_pad ∷ start_lost

abbrev pub fail_pad : Step
fail_pad = unit_step 2 (program_of pad_stripe (Failed 1)) 1 (6 ∷ 1 ∷ 0 ∷ [])

abbrev pub pad_failed : World
pad_failed = fail_pad ∷ pad_placed

abbrev pub lose_pad : Step
lose_pad = engine_step (Lost 1 0) (6 ∷ 1 ∷ 1 ∷ [])

abbrev pub pad_lost : World
pad_lost = lose_pad ∷ pad_failed

-- Line 1.

abbrev pub second_start : StartRecord
second_start = record { line = 1; width = 2; seq = 2; first_seq = 1; front = 0; capacity = 64; rows = [] }

unfoldable pub second_spelling : List ℕ
second_spelling = start_bytes small second_start

abbrev pub open_second : Step
open_second = engine_step (Open 1 second_start) (7 ∷ 1 ∷ 1 ∷ [])

abbrev pub second_opened : World
second_opened = open_second ∷ pad_lost

abbrev pub second_stripe : Stripe
second_stripe = record { line = 1; unit = 0; chunk = 1; at = 0; blocks = meta_blocks 2 second_spelling }

abbrev pub place_second : Step
place_second = engine_step (Place second_stripe) (8 ∷ 1 ∷ 1 ∷ [])

abbrev pub second_placed : World
second_placed = place_second ∷ second_opened

abbrev pub write_second : Step
write_second = unit_step 1 (program_of second_stripe (Answered Done)) 2 (9 ∷ 1 ∷ 1 ∷ [])

abbrev pub second_written : World
second_written = write_second ∷ second_placed

abbrev pub land_second : Step
land_second = engine_step (Landed 0 1) (9 ∷ 2 ∷ 1 ∷ [])

abbrev pub second_landed : World
second_landed = land_second ∷ second_written

abbrev pub free_first : Step
free_first = engine_step (Free 0) (10 ∷ 2 ∷ 1 ∷ [])

abbrev pub first_freed : World
first_freed = free_first ∷ second_landed

-- The sector, and the reset.

abbrev pub second_data : Stripe
second_data = record { line = 1; unit = 1; chunk = 1; at = 0; blocks = data_blocks }

abbrev pub place_sector : Step
place_sector = engine_step (Place second_data) (11 ∷ 2 ∷ 1 ∷ [])

abbrev pub sector_placed : World
sector_placed = place_sector ∷ first_freed

abbrev pub write_sector : Step
write_sector = unit_step 2 (program_of second_data (Answered Done)) 3 (12 ∷ 2 ∷ 1 ∷ [])

abbrev pub sector_written : World
sector_written = write_sector ∷ sector_placed

abbrev pub land_sector : Step
land_sector = engine_step (Landed 1 1) (12 ∷ 2 ∷ 2 ∷ [])

abbrev pub sector_landed : World
sector_landed = land_sector ∷ sector_written

abbrev pub reset_event : UnitEvent
reset_event = record { chunk = 0; command = Reset; outcome = Answered Done }

abbrev pub reset_chunk : Step
reset_chunk = unit_step 1 reset_event 4 (13 ∷ 2 ∷ 2 ∷ [])

abbrev pub chunk_reset : World
chunk_reset = reset_chunk ∷ sector_landed

abbrev pub note_reset : Step
note_reset = engine_step (ResetDone 0 2) (13 ∷ 3 ∷ 2 ∷ [])

abbrev pub reset_noted : World
reset_noted = note_reset ∷ chunk_reset

-- Copies.

abbrev pub source : Source
source = record { line = 1; at = 4; position = 0 }

abbrev pub copy : ℕ → Entry
copy position = record { position = position; lba = 5; source = Some source; sector = sector }

abbrev pub take_copy : Step
take_copy = engine_step (Take (copy 1) (sector_mark 5 1)) (14 ∷ 3 ∷ 2 ∷ [])

abbrev pub copy_taken : World
copy_taken = take_copy ∷ reset_noted

abbrev pub take_stale : Step
take_stale = engine_step (Take (copy 2) (void_mark 2)) (15 ∷ 3 ∷ 2 ∷ [])

abbrev pub collected_world : World
collected_world = take_stale ∷ copy_taken
