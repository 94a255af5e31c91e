-- A world on the blank small drive: the first line has a sector, a second entry of which one block lands before its program
-- fails, and a failed pad. The second entry is placed again in the next line. Once a start record has landed whose front
-- is above both, the first line may be freed, where the second entry is of the same sector.
use Rattle.std.specs.Prelude.{ℕ, List, [], ◌∷◌, replicate, None}
use Rattle.pblk_model.specs.Shape.{small}
use Rattle.pblk_model.specs.Chunk.{Block}
use Rattle.pblk_model.specs.ChunkStep.{Done}
use Rattle.pblk_model.specs.UnitLog.{Answered, Failed}
use Rattle.pblk_model.specs.Marks.{sector_mark, pad_block}
use Rattle.pblk_model.specs.StartRecord.{StartRecord, start_bytes}
use Rattle.pblk_world.specs.Events.{Entry, Stripe, Take, Open, Place, Landed, Lost, Free, Step}
use Rattle.pblk_world.specs.World.{World}
use Rattle.world_tests.specs.Steps.{engine_step, unit_step, program_of, meta_blocks}
use Rattle.world_tests.specs.Simple.{simple_world}

unfoldable pub newer_sector : List ℕ
newer_sector = replicate 512 8

-- the second entry, of this sector number
abbrev pub newer_entry : ℕ → Entry
newer_entry lba = record { position = 1; lba = lba; source = None; sector = newer_sector }

abbrev pub newer_block : ℕ → Block
newer_block lba = record { sector = newer_sector; mark = sector_mark lba 1 }

abbrev pub newer_blocks : ℕ → List Block
newer_blocks lba = newer_block lba ∷ pad_block small ∷ pad_block small ∷ pad_block small ∷ []

abbrev pub take_newer : ℕ → Step
take_newer lba = engine_step (Take (newer_entry lba) (sector_mark lba 1)) (7 ∷ 1 ∷ 1 ∷ [])

abbrev pub newer_taken : ℕ → World
newer_taken lba = take_newer lba ∷ simple_world

abbrev pub newer_stripe : ℕ → Stripe
newer_stripe lba = record { line = 0; unit = 0; chunk = 0; at = 4; blocks = newer_blocks lba }

abbrev pub place_newer : ℕ → Step
place_newer lba = engine_step (Place (newer_stripe lba)) (8 ∷ 1 ∷ 1 ∷ [])

abbrev pub newer_placed : ℕ → World
newer_placed lba = place_newer lba ∷ newer_taken lba

abbrev pub fail_newer : ℕ → Step
fail_newer lba = unit_step 1 (program_of (newer_stripe lba) (Failed 1)) 2 (9 ∷ 1 ∷ 1 ∷ [])

abbrev pub newer_failed : ℕ → World
newer_failed lba = fail_newer lba ∷ newer_placed lba

abbrev pub lose_newer : Step
lose_newer = engine_step (Lost 0 1) (9 ∷ 2 ∷ 1 ∷ [])

abbrev pub newer_lost : ℕ → World
newer_lost lba = lose_newer ∷ newer_failed lba

abbrev pub last_pad : Stripe
last_pad = record { line = 0; unit = 1; chunk = 0; at = 4; blocks = replicate 4 (pad_block small) }

abbrev pub place_last : Step
place_last = engine_step (Place last_pad) (10 ∷ 2 ∷ 1 ∷ [])

abbrev pub last_placed : ℕ → World
last_placed lba = place_last ∷ newer_lost lba

abbrev pub fail_last : Step
fail_last = unit_step 2 (program_of last_pad (Failed 0)) 3 (11 ∷ 2 ∷ 1 ∷ [])

abbrev pub last_failed : ℕ → World
last_failed lba = fail_last ∷ last_placed lba

abbrev pub lose_last : Step
lose_last = engine_step (Lost 1 1) (11 ∷ 2 ∷ 2 ∷ [])

abbrev pub last_lost : ℕ → World
last_lost lba = lose_last ∷ last_failed lba

-- The next line.

abbrev pub next_start : StartRecord
next_start = record { line = 1; width = 2; seq = 2; first_seq = 1; front = 1; capacity = 64; rows = [] }

unfoldable pub next_spelling : List ℕ
next_spelling = start_bytes small next_start

abbrev pub open_next : Step
open_next = engine_step (Open 1 next_start) (12 ∷ 2 ∷ 2 ∷ [])

abbrev pub next_opened : ℕ → World
next_opened lba = open_next ∷ last_lost lba

abbrev pub next_stripe : Stripe
next_stripe = record { line = 1; unit = 0; chunk = 1; at = 0; blocks = meta_blocks 2 next_spelling }

abbrev pub place_next : Step
place_next = engine_step (Place next_stripe) (13 ∷ 2 ∷ 2 ∷ [])

abbrev pub next_placed : ℕ → World
next_placed lba = place_next ∷ next_opened lba

abbrev pub write_next : Step
write_next = unit_step 1 (program_of next_stripe (Answered Done)) 4 (14 ∷ 2 ∷ 2 ∷ [])

abbrev pub next_written : ℕ → World
next_written lba = write_next ∷ next_placed lba

abbrev pub land_next : Step
land_next = engine_step (Landed 0 2) (14 ∷ 3 ∷ 2 ∷ [])

abbrev pub next_landed : ℕ → World
next_landed lba = land_next ∷ next_written lba

-- the second entry once more
abbrev pub again_stripe : ℕ → Stripe
again_stripe lba = record { line = 1; unit = 1; chunk = 1; at = 0; blocks = newer_blocks lba }

abbrev pub place_again : ℕ → Step
place_again lba = engine_step (Place (again_stripe lba)) (15 ∷ 3 ∷ 2 ∷ [])

abbrev pub again_placed : ℕ → World
again_placed lba = place_again lba ∷ next_landed lba

abbrev pub write_again : ℕ → Step
write_again lba = unit_step 2 (program_of (again_stripe lba) (Answered Done)) 5 (16 ∷ 3 ∷ 2 ∷ [])

abbrev pub again_written : ℕ → World
again_written lba = write_again lba ∷ again_placed lba

abbrev pub land_again : Step
land_again = engine_step (Landed 1 2) (16 ∷ 3 ∷ 3 ∷ [])

abbrev pub again_landed : ℕ → World
again_landed lba = land_again ∷ again_written lba

-- A line whose start record has a front above both.

abbrev pub third_start : StartRecord
third_start = record { line = 2; width = 2; seq = 3; first_seq = 1; front = 2; capacity = 64; rows = [] }

unfoldable pub third_spelling : List ℕ
third_spelling = start_bytes small third_start

abbrev pub open_third : Step
open_third = engine_step (Open 2 third_start) (17 ∷ 3 ∷ 3 ∷ [])

abbrev pub third_opened : ℕ → World
third_opened lba = open_third ∷ again_landed lba

abbrev pub third_stripe : Stripe
third_stripe = record { line = 2; unit = 0; chunk = 2; at = 0; blocks = meta_blocks 3 third_spelling }

abbrev pub place_third : Step
place_third = engine_step (Place third_stripe) (18 ∷ 3 ∷ 3 ∷ [])

abbrev pub third_placed : ℕ → World
third_placed lba = place_third ∷ third_opened lba

abbrev pub write_third : Step
write_third = unit_step 1 (program_of third_stripe (Answered Done)) 6 (19 ∷ 3 ∷ 3 ∷ [])

abbrev pub third_written : ℕ → World
third_written lba = write_third ∷ third_placed lba

abbrev pub land_third : Step
land_third = engine_step (Landed 0 3) (19 ∷ 4 ∷ 3 ∷ [])

abbrev pub third_landed : ℕ → World
third_landed lba = land_third ∷ third_written lba

abbrev pub free_old : Step
free_old = engine_step (Free 0) (20 ∷ 4 ∷ 3 ∷ [])

-- the sector 5 was written again
abbrev pub overwritten_world : World
overwritten_world = free_old ∷ third_landed 5

-- it wasn't: the line has the only record of it
abbrev pub last_record_is_freed : World
last_record_is_freed = free_old ∷ third_landed 6

-- the front of the newest start record isn't above all positions of the line
abbrev pub free_early : Step
free_early = engine_step (Free 0) (15 ∷ 3 ∷ 2 ∷ [])

abbrev pub position_is_above_the_front : World
position_is_above_the_front = free_early ∷ next_landed 5
