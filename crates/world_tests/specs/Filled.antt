-- A world on a small drive of which one unit alone has chunks that aren't Offline: a line of width 1 is filled, four entries
-- in four padded stripes, and gets its end record.
use Rattle.std.specs.Prelude.{ℕ, List, [], ◌∷◌, ◌++◌, replicate, None}
use Rattle.pblk_model.specs.declared.chunk.Mark.{Mark}
use Rattle.pblk_model.specs.Shape.{small}
use Rattle.pblk_model.specs.Chunk.{Block, free_chunk, offline_chunk}
use Rattle.pblk_model.specs.ChunkStep.{Done}
use Rattle.pblk_model.specs.UnitLog.{Answered}
use Rattle.pblk_model.specs.Marks.{sector_mark, pad_mark, pad_block}
use Rattle.pblk_model.specs.Image.{Image}
use Rattle.pblk_model.specs.StartRecord.{StartRecord, start_bytes}
use Rattle.pblk_model.specs.EndRecord.{EndRecord, end_bytes}
use Rattle.pblk_world.specs.Events.{Entry, Stripe, Begin, Take, Open, Place, Landed, Step}
use Rattle.pblk_world.specs.World.{World}
use Rattle.world_tests.specs.Steps.{engine_step, unit_step, program_of, meta_blocks, sector, sector_block}

abbrev pub narrow_image : Image
narrow_image = record { shape = small; units = replicate 8 free_chunk ∷ replicate 8 offline_chunk ∷ [] }

abbrev pub narrow_start : StartRecord
narrow_start = record { line = 0; width = 1; seq = 1; first_seq = 1; front = 0; capacity = 64; rows = [] }

unfoldable pub narrow_spelling : List ℕ
narrow_spelling = start_bytes small narrow_start

-- the marks of an entry's stripe
abbrev pub marks_of : ℕ → List Mark
marks_of position = sector_mark 5 position ∷ pad_mark ∷ pad_mark ∷ pad_mark ∷ []

abbrev pub narrow_end : EndRecord
narrow_end = record { line = 0; width = 1; seq = 1; pairs = marks_of 0 ++ marks_of 1 ++ marks_of 2 ++ marks_of 3 }

unfoldable pub end_spelling : List ℕ
end_spelling = end_bytes small narrow_end

-- a stripe of the line's one chunk
abbrev pub stripe_from : ℕ → List Block → Stripe
stripe_from at blocks = record { line = 0; unit = 0; chunk = 0; at = at; blocks = blocks }

abbrev pub entry_at : ℕ → Entry
entry_at position = record { position = position; lba = 5; source = None; sector = sector }

abbrev pub entry_blocks : ℕ → List Block
entry_blocks position = sector_block position ∷ replicate 3 (pad_block small)

abbrev pub write_of : Stripe → ℕ → List ℕ → Step
write_of stripe made knows = unit_step 1 (program_of stripe (Answered Done)) made knows

abbrev pub begin_mount : Step
begin_mount = engine_step (Begin (record { first = 0; seq = 1; strays = [] })) (0 ∷ 0 ∷ 0 ∷ [])

abbrev pub after_begin : World
after_begin = begin_mount ∷ []

abbrev pub open_line : Step
open_line = engine_step (Open 0 narrow_start) (1 ∷ 0 ∷ 0 ∷ [])

abbrev pub after_open : World
after_open = open_line ∷ after_begin

abbrev pub place_first : Step
place_first = engine_step (Place (stripe_from 0 (meta_blocks 1 narrow_spelling))) (2 ∷ 0 ∷ 0 ∷ [])

abbrev pub after_place_first : World
after_place_first = place_first ∷ after_open

abbrev pub write_first : Step
write_first = write_of (stripe_from 0 (meta_blocks 1 narrow_spelling)) 0 (3 ∷ 0 ∷ 0 ∷ [])

abbrev pub after_write_first : World
after_write_first = write_first ∷ after_place_first

abbrev pub land_first : Step
land_first = engine_step (Landed 0 0) (3 ∷ 1 ∷ 0 ∷ [])

abbrev pub after_land_first : World
after_land_first = land_first ∷ after_write_first

abbrev pub take_zero : Step
take_zero = engine_step (Take (entry_at 0) (sector_mark 5 0)) (4 ∷ 1 ∷ 0 ∷ [])

abbrev pub after_take_zero : World
after_take_zero = take_zero ∷ after_land_first

abbrev pub place_zero : Step
place_zero = engine_step (Place (stripe_from 4 (entry_blocks 0))) (5 ∷ 1 ∷ 0 ∷ [])

abbrev pub after_place_zero : World
after_place_zero = place_zero ∷ after_take_zero

abbrev pub write_zero : Step
write_zero = write_of (stripe_from 4 (entry_blocks 0)) 1 (6 ∷ 1 ∷ 0 ∷ [])

abbrev pub after_write_zero : World
after_write_zero = write_zero ∷ after_place_zero

abbrev pub land_zero : Step
land_zero = engine_step (Landed 0 1) (6 ∷ 2 ∷ 0 ∷ [])

abbrev pub after_land_zero : World
after_land_zero = land_zero ∷ after_write_zero

abbrev pub take_one : Step
take_one = engine_step (Take (entry_at 1) (sector_mark 5 1)) (7 ∷ 2 ∷ 0 ∷ [])

abbrev pub after_take_one : World
after_take_one = take_one ∷ after_land_zero

abbrev pub place_one : Step
place_one = engine_step (Place (stripe_from 8 (entry_blocks 1))) (8 ∷ 2 ∷ 0 ∷ [])

abbrev pub after_place_one : World
after_place_one = place_one ∷ after_take_one

abbrev pub write_one : Step
write_one = write_of (stripe_from 8 (entry_blocks 1)) 2 (9 ∷ 2 ∷ 0 ∷ [])

abbrev pub after_write_one : World
after_write_one = write_one ∷ after_place_one

abbrev pub land_one : Step
land_one = engine_step (Landed 0 2) (9 ∷ 3 ∷ 0 ∷ [])

abbrev pub after_land_one : World
after_land_one = land_one ∷ after_write_one

abbrev pub take_two : Step
take_two = engine_step (Take (entry_at 2) (sector_mark 5 2)) (10 ∷ 3 ∷ 0 ∷ [])

abbrev pub after_take_two : World
after_take_two = take_two ∷ after_land_one

abbrev pub place_two : Step
place_two = engine_step (Place (stripe_from 12 (entry_blocks 2))) (11 ∷ 3 ∷ 0 ∷ [])

abbrev pub after_place_two : World
after_place_two = place_two ∷ after_take_two

abbrev pub write_two : Step
write_two = write_of (stripe_from 12 (entry_blocks 2)) 3 (12 ∷ 3 ∷ 0 ∷ [])

abbrev pub after_write_two : World
after_write_two = write_two ∷ after_place_two

abbrev pub land_two : Step
land_two = engine_step (Landed 0 3) (12 ∷ 4 ∷ 0 ∷ [])

abbrev pub after_land_two : World
after_land_two = land_two ∷ after_write_two

abbrev pub take_three : Step
take_three = engine_step (Take (entry_at 3) (sector_mark 5 3)) (13 ∷ 4 ∷ 0 ∷ [])

abbrev pub after_take_three : World
after_take_three = take_three ∷ after_land_two

abbrev pub place_three : Step
place_three = engine_step (Place (stripe_from 16 (entry_blocks 3))) (14 ∷ 4 ∷ 0 ∷ [])

abbrev pub after_place_three : World
after_place_three = place_three ∷ after_take_three

abbrev pub write_three : Step
write_three = write_of (stripe_from 16 (entry_blocks 3)) 4 (15 ∷ 4 ∷ 0 ∷ [])

abbrev pub after_write_three : World
after_write_three = write_three ∷ after_place_three

abbrev pub land_three : Step
land_three = engine_step (Landed 0 4) (15 ∷ 5 ∷ 0 ∷ [])

abbrev pub after_land_three : World
after_land_three = land_three ∷ after_write_three

abbrev pub place_end : Step
place_end = engine_step (Place (stripe_from 20 (meta_blocks 1 end_spelling))) (16 ∷ 5 ∷ 0 ∷ [])

abbrev pub after_place_end : World
after_place_end = place_end ∷ after_land_three

abbrev pub write_end : Step
write_end = write_of (stripe_from 20 (meta_blocks 1 end_spelling)) 5 (17 ∷ 5 ∷ 0 ∷ [])

abbrev pub after_write_end : World
after_write_end = write_end ∷ after_place_end

abbrev pub land_end : Step
land_end = engine_step (Landed 0 5) (17 ∷ 6 ∷ 0 ∷ [])

abbrev pub after_land_end : World
after_land_end = land_end ∷ after_write_end

-- Wrong ones.

abbrev pub end_before_data : World
end_before_data = engine_step (Place (stripe_from 20 (meta_blocks 1 end_spelling))) (15 ∷ 4 ∷ 0 ∷ []) ∷ after_write_three

abbrev pub after_late_take : World
after_late_take = engine_step (Take (entry_at 4) (sector_mark 5 4)) (16 ∷ 5 ∷ 0 ∷ []) ∷ after_land_three

abbrev pub place_data_at_end : Step
place_data_at_end = engine_step (Place (stripe_from 20 (entry_blocks 4))) (17 ∷ 5 ∷ 0 ∷ [])

abbrev pub data_at_the_end : World
data_at_the_end = place_data_at_end ∷ after_late_take
