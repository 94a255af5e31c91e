-- Worlds on the blank small drive in which the sector is written again before its stripe has landed. Then the stripe lands, or
-- its program fails once a first block of it has landed.
use Rattle.std.specs.Prelude.{[], ◌∷◌}
use Rattle.pblk_model.specs.ChunkStep.{Done}
use Rattle.pblk_model.specs.UnitLog.{Answered, Failed}
use Rattle.pblk_model.specs.Marks.{sector_mark}
use Rattle.pblk_world.specs.Events.{Take, Landed, Lost, Step}
use Rattle.pblk_world.specs.World.{World}
use Rattle.world_tests.specs.Steps.{engine_step, unit_step, program_of}
use Rattle.world_tests.specs.Simple.{data_stripe, data_placed}
use Rattle.world_tests.specs.Overwritten.{newer_entry}

abbrev pub take_between : Step
take_between = engine_step (Take (newer_entry 5) (sector_mark 5 1)) (6 ∷ 1 ∷ 0 ∷ [])

abbrev pub between_taken : World
between_taken = take_between ∷ data_placed

-- it lands

abbrev pub write_after : Step
write_after = unit_step 2 (program_of data_stripe (Answered Done)) 1 (7 ∷ 1 ∷ 0 ∷ [])

abbrev pub after_written : World
after_written = write_after ∷ between_taken

abbrev pub land_after : Step
land_after = engine_step (Landed 1 0) (7 ∷ 1 ∷ 1 ∷ [])

abbrev pub after_landed : World
after_landed = land_after ∷ after_written

-- it is lost

abbrev pub fail_after : Step
fail_after = unit_step 2 (program_of data_stripe (Failed 1)) 1 (7 ∷ 1 ∷ 0 ∷ [])

abbrev pub after_failed : World
after_failed = fail_after ∷ between_taken

abbrev pub lose_after : Step
lose_after = engine_step (Lost 1 0) (7 ∷ 1 ∷ 1 ∷ [])

abbrev pub after_lost : World
after_lost = lose_after ∷ after_failed
