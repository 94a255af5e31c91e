-- Worlds in which the drive stops within the program of a start record: it is offered again, and stopped again.
use Rattle.std.specs.Prelude.{[], ◌∷◌}
use Rattle.pblk_model.specs.UnitLog.{Stopped}
use Rattle.pblk_world.specs.Events.{Again, Place, Step}
use Rattle.pblk_world.specs.World.{World}
use Rattle.world_tests.specs.Steps.{engine_step, unit_step, program_of}
use Rattle.world_tests.specs.Simple.{start_stripe, start_placed}

abbrev pub stop_start : Step
stop_start = unit_step 1 (program_of start_stripe (Stopped 1)) 0 (4 ∷ 0 ∷ 0 ∷ [])

abbrev pub start_stopped : World
start_stopped = stop_start ∷ start_placed

abbrev pub offer_again : Step
offer_again = engine_step (Again 0 0) (4 ∷ 1 ∷ 0 ∷ [])

abbrev pub offered_again : World
offered_again = offer_again ∷ start_stopped

abbrev pub stop_again : Step
stop_again = unit_step 1 (program_of start_stripe (Stopped 0)) 1 (5 ∷ 1 ∷ 0 ∷ [])

abbrev pub halted_world : World
halted_world = stop_again ∷ offered_again

-- Wrong ones.

abbrev pub stopped_program_lands_more : World
stopped_program_lands_more = unit_step 1 (program_of start_stripe (Stopped 1)) 1 (5 ∷ 1 ∷ 0 ∷ []) ∷ offered_again

abbrev pub stripe_beside_a_stopped_one : World
stripe_beside_a_stopped_one = engine_step (Place start_stripe) (5 ∷ 1 ∷ 0 ∷ []) ∷ offered_again
