-- Worlds over an image whose first line has an Open chunk and no start record: the chunk is padded to its end before the
-- mount begins, reset as a stray, and then the line is opened.
use Rattle.std.specs.Prelude.{ℕ, List, [], ◌∷◌, replicate}
use Rattle.pblk_model.specs.declared.chunk.ChunkState.TheVariants as states
use Rattle.pblk_model.specs.Shape.{small}
use Rattle.pblk_model.specs.Chunk.{Block, free_chunk}
use Rattle.pblk_model.specs.ChunkStep.{Write, Reset, Done}
use Rattle.pblk_model.specs.UnitLog.{UnitEvent, Answered}
use Rattle.pblk_model.specs.Marks.{sector_mark, pad_block}
use Rattle.pblk_model.specs.Image.{Image}
use Rattle.pblk_world.specs.Events.{Begin, Take, Open, ResetDone, Step}
use Rattle.pblk_world.specs.World.{World}
use Rattle.world_tests.specs.Steps.{engine_step, unit_step, sector_block}
use Rattle.world_tests.specs.Simple.{entry, start}

abbrev pub stray_image : Image
stray_image = record {
  shape = small;
  units = (record { state = states.Open; blocks = replicate 20 (pad_block small) } ∷ replicate 7 free_chunk)
      ∷ replicate 8 free_chunk ∷ [];
}

abbrev pub pad_event : List Block → UnitEvent
pad_event blocks = record { chunk = 0; command = Write 20 blocks; outcome = Answered Done }

abbrev pub pad_to_end : Step
pad_to_end = unit_step 1 (pad_event (replicate 4 (pad_block small))) 0 (0 ∷ 0 ∷ 0 ∷ [])

abbrev pub padded_world : World
padded_world = pad_to_end ∷ []

abbrev pub begin_with : List ℕ → Step
begin_with strays = engine_step (Begin (record { first = 0; seq = 1; strays = strays })) (0 ∷ 1 ∷ 0 ∷ [])

abbrev pub begun_stray : World
begun_stray = begin_with (0 ∷ []) ∷ padded_world

abbrev pub reset_of : ℕ → UnitEvent
reset_of chunk = record { chunk = chunk; command = Reset; outcome = Answered Done }

abbrev pub reset_stray : Step
reset_stray = unit_step 1 (reset_of 0) 1 (1 ∷ 1 ∷ 0 ∷ [])

abbrev pub stray_reset : World
stray_reset = reset_stray ∷ begun_stray

abbrev pub note_stray : Step
note_stray = engine_step (ResetDone 0 1) (1 ∷ 2 ∷ 0 ∷ [])

abbrev pub stray_noted : World
stray_noted = note_stray ∷ stray_reset

abbrev pub take_after : Step
take_after = engine_step (Take entry (sector_mark 5 0)) (2 ∷ 2 ∷ 0 ∷ [])

abbrev pub taken_after : World
taken_after = take_after ∷ stray_noted

abbrev pub open_after : Step
open_after = engine_step (Open 0 start) (3 ∷ 2 ∷ 0 ∷ [])

abbrev pub stray_world : World
stray_world = open_after ∷ taken_after

-- Wrong ones.

abbrev pub pads_part_of_a_stripe : World
pads_part_of_a_stripe = unit_step 1 (pad_event (replicate 2 (pad_block small))) 0 (0 ∷ 0 ∷ 0 ∷ []) ∷ []

abbrev pub pads_with_a_sector : World
pads_with_a_sector = unit_step 1 (pad_event (replicate 4 (sector_block 0))) 0 (0 ∷ 0 ∷ 0 ∷ []) ∷ []

abbrev pub leaves_a_stray_out : World
leaves_a_stray_out = begin_with [] ∷ padded_world

abbrev pub blank_line_is_reset : World
blank_line_is_reset = unit_step 1 (reset_of 1) 1 (1 ∷ 1 ∷ 0 ∷ []) ∷ begun_stray

abbrev pub stray_is_reset_twice : World
stray_is_reset_twice = unit_step 1 (reset_of 0) 2 (2 ∷ 2 ∷ 0 ∷ []) ∷ stray_noted

abbrev pub stray_is_opened_before_its_reset : World
stray_is_opened_before_its_reset = engine_step (Open 0 start) (2 ∷ 1 ∷ 0 ∷ [])
    ∷ engine_step (Take entry (sector_mark 5 0)) (1 ∷ 1 ∷ 0 ∷ []) ∷ begun_stray
