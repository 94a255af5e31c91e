-- A world over an image of an older mount: its first line has a start record, a sector, and pads up to the ends of its chunks.
-- The sector is copied into the next line, and the first line is freed.
use Rattle.std.specs.Prelude.{ℕ, List, [], ◌∷◌, ◌++◌, replicate, Some}
use Rattle.pblk_model.specs.declared.chunk.ChunkState.TheVariants as states
use Rattle.pblk_model.specs.Shape.{small}
use Rattle.pblk_model.specs.Chunk.{free_chunk}
use Rattle.pblk_model.specs.ChunkStep.{Done}
use Rattle.pblk_model.specs.UnitLog.{Answered}
use Rattle.pblk_model.specs.Marks.{sector_mark, pad_block}
use Rattle.pblk_model.specs.Image.{Image}
use Rattle.pblk_model.specs.StartRecord.{StartRecord, Row, start_bytes}
use Rattle.pblk_world.specs.Events.{Entry, Stripe, Begin, Take, Open, Place, Landed, Free, Step}
use Rattle.pblk_world.specs.World.{World}
use Rattle.world_tests.specs.Steps.{engine_step, unit_step, program_of, meta_blocks, sector, sector_block}
use Rattle.world_tests.specs.Simple.{spelling, data_blocks}

abbrev pub older_image : Image
older_image = record {
  shape = small;
  units = (record { state = states.Closed; blocks = meta_blocks 1 spelling ++ replicate 20 (pad_block small) } ∷ replicate 7 free_chunk)
      ∷ (record { state = states.Closed; blocks = data_blocks ++ replicate 20 (pad_block small) } ∷ replicate 7 free_chunk) ∷ [];
}

abbrev pub begin_older : Step
begin_older = engine_step (Begin (record { first = 1; seq = 2; strays = [] })) (0 ∷ 0 ∷ 0 ∷ [])

abbrev pub older_begun : World
older_begun = begin_older ∷ []

abbrev pub copy_of_found : Entry
copy_of_found = record { position = 1; lba = 5; source = Some (record { line = 0; at = 4; position = 0 }); sector = sector }

abbrev pub take_found : Step
take_found = engine_step (Take copy_of_found (sector_mark 5 1)) (1 ∷ 0 ∷ 0 ∷ [])

abbrev pub found_taken : World
found_taken = take_found ∷ older_begun

-- a start record of the second mount, with these rows
abbrev pub start_with : List Row → StartRecord
start_with rows = record { line = 1; width = 2; seq = 2; first_seq = 2; front = 1; capacity = 64; rows = rows }

abbrev pub rows : List Row
rows = record { line = 0; seq = 1; bound = 1 } ∷ []

unfoldable pub younger_spelling : List ℕ
younger_spelling = start_bytes small (start_with rows)

abbrev pub open_with : List Row → Step
open_with rows = engine_step (Open 1 (start_with rows)) (2 ∷ 0 ∷ 0 ∷ [])

abbrev pub younger_opened : World
younger_opened = open_with rows ∷ found_taken

abbrev pub younger_stripe : Stripe
younger_stripe = record { line = 1; unit = 0; chunk = 1; at = 0; blocks = meta_blocks 2 younger_spelling }

abbrev pub place_younger : Step
place_younger = engine_step (Place younger_stripe) (3 ∷ 0 ∷ 0 ∷ [])

abbrev pub younger_placed : World
younger_placed = place_younger ∷ younger_opened

abbrev pub write_younger : Step
write_younger = unit_step 1 (program_of younger_stripe (Answered Done)) 0 (4 ∷ 0 ∷ 0 ∷ [])

abbrev pub younger_written : World
younger_written = write_younger ∷ younger_placed

abbrev pub land_younger : Step
land_younger = engine_step (Landed 0 0) (4 ∷ 1 ∷ 0 ∷ [])

abbrev pub younger_landed : World
younger_landed = land_younger ∷ younger_written

abbrev pub copied_stripe : Stripe
copied_stripe = record { line = 1; unit = 1; chunk = 1; at = 0; blocks = sector_block 1 ∷ replicate 3 (pad_block small) }

abbrev pub place_copied : Step
place_copied = engine_step (Place copied_stripe) (5 ∷ 1 ∷ 0 ∷ [])

abbrev pub copied_placed : World
copied_placed = place_copied ∷ younger_landed

abbrev pub write_copied : Step
write_copied = unit_step 2 (program_of copied_stripe (Answered Done)) 1 (6 ∷ 1 ∷ 0 ∷ [])

abbrev pub copied_written : World
copied_written = write_copied ∷ copied_placed

abbrev pub land_copied : Step
land_copied = engine_step (Landed 1 0) (6 ∷ 1 ∷ 1 ∷ [])

abbrev pub copied_landed : World
copied_landed = land_copied ∷ copied_written

abbrev pub free_older : Step
free_older = engine_step (Free 0) (7 ∷ 1 ∷ 1 ∷ [])

abbrev pub older_world : World
older_world = free_older ∷ copied_landed

-- Wrong ones.

abbrev pub older_line_has_no_row : World
older_line_has_no_row = open_with [] ∷ found_taken

abbrev pub bound_isnt_the_end : World
bound_isnt_the_end = open_with (record { line = 0; seq = 1; bound = 0 } ∷ []) ∷ found_taken
