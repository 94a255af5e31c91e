use Rattle.std.proofs.Common.{subst, refl}
use Rattle.pblk_model.specs.Shape.{small}
use Rattle.pblk_model.specs.Accepted.{IsAccepted}
use Rattle.world_tests.specs.Simple.{start}
use Rattle.world_tests.proofs.TakenWorlds.{landed_legal, lost_legal}
use Rattle.world_tests.proofs.takers.worlds_with_a_sector_taken_in_flight_are_legal.Goals as goal

pub returns : goal.returns
returns c =
    let accepted : IsAccepted small = subst IsAccepted c.small-shape.ensures.numbers c.small-shape.ensures.accepted in
    let long = c.spelling_fills_its_blocks.ensures.size small 0 2 start accepted refl in
    let each = c.spelling_fills_its_blocks.ensures.bytes small start in
    record { landed = landed_legal long each; lost = lost_legal long each }
