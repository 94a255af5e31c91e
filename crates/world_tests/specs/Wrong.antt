-- Worlds that aren't legal: each is a legal one with one more step, in which one thing is wrong.
use Rattle.std.specs.Prelude.{[], ◌∷◌, replicate}
use Rattle.pblk_model.specs.declared.chunk.ChunkState.TheVariants as states
use Rattle.pblk_model.specs.Shape.{small}
use Rattle.pblk_model.specs.Chunk.{free_chunk}
use Rattle.pblk_model.specs.ChunkStep.{Reset, Done}
use Rattle.pblk_model.specs.UnitLog.{Answered, Failed, Stopped}
use Rattle.pblk_model.specs.Marks.{sector_mark, void_mark, pad_block}
use Rattle.pblk_model.specs.Image.{Image}
use Rattle.pblk_world.specs.Events.{Begin, Take, Open, Place, Landed, Lost, Again, ResetDone, Free, Step}
use Rattle.pblk_world.specs.World.{World}
use Rattle.world_tests.specs.Steps.{engine_step, unit_step, program_of}
use Rattle.world_tests.specs.Simple.{entry, start, start_stripe, data_stripe, begun_world, taken_world, opened_world, start_placed, start_written, start_landed}
use Rattle.world_tests.specs.Collected.{copy, fail_start, start_lost, pad_lost, second_landed, first_freed, reset_noted, copy_taken}

-- Of the beginning.

abbrev pub first_is_taken : World
first_is_taken = engine_step (Begin (record { first = 1; seq = 1; strays = [] })) (0 ∷ 0 ∷ 0 ∷ []) ∷ []

abbrev pub seq_is_skipped : World
seq_is_skipped = engine_step (Begin (record { first = 0; seq = 2; strays = [] })) (0 ∷ 0 ∷ 0 ∷ []) ∷ []

abbrev pub blank_line_is_stray : World
blank_line_is_stray = engine_step (Begin (record { first = 0; seq = 1; strays = 3 ∷ [] })) (0 ∷ 0 ∷ 0 ∷ []) ∷ []

abbrev pub begins_twice : World
begins_twice = engine_step (Begin (record { first = 0; seq = 1; strays = [] })) (1 ∷ 0 ∷ 0 ∷ []) ∷ begun_world

abbrev pub never_begins : World
never_begins = engine_step (Take entry (sector_mark 5 0)) (0 ∷ 0 ∷ 0 ∷ []) ∷ []

-- over an image whose first chunk is Open
abbrev pub open_image : Image
open_image = record {
  shape = small;
  units = (record { state = states.Open; blocks = replicate 2 (pad_block small) } ∷ replicate 7 free_chunk)
      ∷ replicate 8 free_chunk ∷ [];
}

-- Of taking.

abbrev pub position_is_skipped : World
position_is_skipped = engine_step (Take (record entry { position = 1 }) (sector_mark 5 1)) (1 ∷ 0 ∷ 0 ∷ []) ∷ begun_world

abbrev pub lba_is_past_the_end : World
lba_is_past_the_end = engine_step (Take (record entry { lba = 64 }) (sector_mark 64 0)) (1 ∷ 0 ∷ 0 ∷ []) ∷ begun_world

abbrev pub mark_is_anothers : World
mark_is_anothers = engine_step (Take entry (sector_mark 6 0)) (1 ∷ 0 ∷ 0 ∷ []) ∷ begun_world

abbrev pub stale_copy : Step
stale_copy = engine_step (Take (copy 2) (sector_mark 5 2)) (15 ∷ 3 ∷ 2 ∷ [])

abbrev pub stale_copy_wins : World
stale_copy_wins = stale_copy ∷ copy_taken

abbrev pub void_copy : Step
void_copy = engine_step (Take (copy 1) (void_mark 1)) (14 ∷ 3 ∷ 2 ∷ [])

abbrev pub latest_copy_is_void : World
latest_copy_is_void = void_copy ∷ reset_noted

abbrev pub changed_copy : Step
changed_copy = engine_step (Take (record (copy 1) { sector = replicate 512 8 }) (sector_mark 5 1)) (14 ∷ 3 ∷ 2 ∷ [])

abbrev pub copy_holds_another_sector : World
copy_holds_another_sector = changed_copy ∷ reset_noted

-- Of opening.

abbrev pub line_isnt_the_first : World
line_isnt_the_first = engine_step (Open 1 (record start { line = 1 })) (2 ∷ 0 ∷ 0 ∷ []) ∷ taken_world

abbrev pub line_is_opened_twice : World
line_is_opened_twice = engine_step (Open 0 (record start { seq = 2 })) (3 ∷ 0 ∷ 0 ∷ []) ∷ opened_world

abbrev pub start_skips_a_seq : World
start_skips_a_seq = engine_step (Open 0 (record start { seq = 2 })) (2 ∷ 0 ∷ 0 ∷ []) ∷ taken_world

abbrev pub start_is_of_another_mount : World
start_is_of_another_mount = engine_step (Open 0 (record start { first_seq = 0 })) (2 ∷ 0 ∷ 0 ∷ []) ∷ taken_world

abbrev pub front_isnt_synced : World
front_isnt_synced = engine_step (Open 0 (record start { front = 1 })) (2 ∷ 0 ∷ 0 ∷ []) ∷ taken_world

abbrev pub row_is_of_a_blank_line : World
row_is_of_a_blank_line = engine_step (Open 0 (record start { rows = record { line = 1; seq = 1; bound = 0 } ∷ [] }))
    (2 ∷ 0 ∷ 0 ∷ []) ∷ taken_world

abbrev pub width_isnt_the_lines : World
width_isnt_the_lines = engine_step (Open 0 (record start { width = 1 })) (2 ∷ 0 ∷ 0 ∷ []) ∷ taken_world

-- Of placing.

abbrev pub early_data : Step
early_data = engine_step (Place data_stripe) (4 ∷ 0 ∷ 0 ∷ [])

abbrev pub data_before_start : World
data_before_start = early_data ∷ start_placed

abbrev pub unit_is_busy : World
unit_is_busy = engine_step (Place start_stripe) (4 ∷ 0 ∷ 0 ∷ []) ∷ start_placed

abbrev pub unordered_data : Step
unordered_data = engine_step (Place (record data_stripe { unit = 0; at = 4 })) (5 ∷ 1 ∷ 0 ∷ [])

abbrev pub order_is_broken : World
order_is_broken = unordered_data ∷ start_landed

abbrev pub dropped_data : Step
dropped_data = engine_step (Place (record data_stripe { blocks = replicate 4 (pad_block small) })) (5 ∷ 1 ∷ 0 ∷ [])

abbrev pub entry_is_dropped : World
entry_is_dropped = dropped_data ∷ start_landed

abbrev pub line_isnt_open : World
line_isnt_open = engine_step (Place (record data_stripe { line = 1; chunk = 1 })) (5 ∷ 1 ∷ 0 ∷ []) ∷ start_landed

abbrev pub failed_data : Step
failed_data = engine_step (Place data_stripe) (5 ∷ 1 ∷ 0 ∷ [])

abbrev pub data_in_failed_line : World
data_in_failed_line = failed_data ∷ start_lost

abbrev pub chunk_is_anothers : World
chunk_is_anothers = engine_step (Place (record data_stripe { chunk = 1 })) (5 ∷ 1 ∷ 0 ∷ []) ∷ start_landed

-- Of commands.

abbrev pub resets_before_begin : World
resets_before_begin = unit_step 1 (record { chunk = 0; command = Reset; outcome = Stopped 0 }) 0 (0 ∷ 0 ∷ 0 ∷ []) ∷ []

abbrev pub stripe_isnt_placed : World
stripe_isnt_placed = unit_step 2 (program_of data_stripe (Answered Done)) 0 (4 ∷ 0 ∷ 0 ∷ []) ∷ start_placed

abbrev pub stripe_isnt_known : World
stripe_isnt_known = unit_step 1 (program_of start_stripe (Answered Done)) 0 (3 ∷ 0 ∷ 0 ∷ []) ∷ start_placed

abbrev pub open_line_is_reset : World
open_line_is_reset = unit_step 1 (record { chunk = 0; command = Reset; outcome = Answered Done }) 1
    (4 ∷ 1 ∷ 0 ∷ []) ∷ start_written

abbrev pub stopped_unit_writes : World
stopped_unit_writes = unit_step 1 (program_of start_stripe (Answered Done)) 1 (4 ∷ 1 ∷ 0 ∷ [])
    ∷ unit_step 1 (program_of start_stripe (Stopped 0)) 0 (4 ∷ 0 ∷ 0 ∷ []) ∷ start_placed

abbrev pub failure_lands_all : World
failure_lands_all = unit_step 1 (program_of start_stripe (Failed 2)) 0 (4 ∷ 0 ∷ 0 ∷ []) ∷ start_placed

-- Of answers.

abbrev pub answer_isnt_known : World
answer_isnt_known = engine_step (Landed 0 0) (4 ∷ 0 ∷ 0 ∷ []) ∷ start_written

abbrev pub failed_program_lands : World
failed_program_lands = engine_step (Landed 0 0) (4 ∷ 1 ∷ 0 ∷ []) ∷ fail_start ∷ start_placed

abbrev pub program_lands_twice : World
program_lands_twice = engine_step (Landed 0 0) (5 ∷ 1 ∷ 0 ∷ []) ∷ start_landed

abbrev pub done_program_is_lost : World
done_program_is_lost = engine_step (Lost 0 0) (4 ∷ 1 ∷ 0 ∷ []) ∷ start_written

abbrev pub done_program_is_offered_again : World
done_program_is_offered_again = engine_step (Again 0 0) (4 ∷ 1 ∷ 0 ∷ []) ∷ start_written

abbrev pub program_is_noted_as_reset : World
program_is_noted_as_reset = engine_step (ResetDone 0 0) (4 ∷ 1 ∷ 0 ∷ []) ∷ start_written

-- Of freeing.

abbrev pub free_newest : Step
free_newest = engine_step (Free 1) (10 ∷ 2 ∷ 1 ∷ [])

abbrev pub newest_line_is_freed : World
newest_line_is_freed = free_newest ∷ second_landed

abbrev pub freed_before_a_start_landed : World
freed_before_a_start_landed = engine_step (Free 0) (7 ∷ 1 ∷ 1 ∷ []) ∷ pad_lost

abbrev pub line_is_freed_twice : World
line_is_freed_twice = engine_step (Free 0) (11 ∷ 2 ∷ 1 ∷ []) ∷ first_freed

abbrev pub blank_line_is_freed : World
blank_line_is_freed = engine_step (Free 5) (10 ∷ 2 ∷ 1 ∷ []) ∷ second_landed

-- Of knowledge.

abbrev pub knows_the_future : World
knows_the_future = engine_step (Place data_stripe) (5 ∷ 1 ∷ 1 ∷ []) ∷ start_landed

abbrev pub forgets : World
forgets = engine_step (Place data_stripe) (5 ∷ 0 ∷ 0 ∷ []) ∷ start_landed

abbrev pub misses_its_own_log : World
misses_its_own_log = engine_step (Take entry (sector_mark 5 0)) (1 ∷ 0 ∷ 0 ∷ []) ∷ taken_world

abbrev pub unit_decides : World
unit_decides = record { author = 1; logged = (engine_step (Take entry (sector_mark 5 0)) (1 ∷ 0 ∷ 0 ∷ [])).logged } ∷ begun_world

abbrev pub author_is_none : World
author_is_none = unit_step 3 (program_of start_stripe (Stopped 0)) 0 (4 ∷ 0 ∷ 0 ∷ []) ∷ start_placed
