use Rattle.std.proofs.Common.{refl, subst}
use Rattle.pblk_model.specs.Shape.{small}
use Rattle.pblk_model.specs.Accepted.{IsAccepted}
use Rattle.world_tests.specs.Simple.{start}
use Rattle.world_tests.proofs.SimpleWorld.{metas_written}
use Rattle.world_tests.proofs.OtherWorlds.{halted_legal}
use Rattle.world_tests.proofs.other.a_halted_world_is_legal.Goals as goal

pub returns : goal.returns
returns c =
    let accepted : IsAccepted small = subst IsAccepted c.small-shape.ensures.numbers c.small-shape.ensures.accepted in
    halted_legal (metas_written (c.spelling_fills_its_blocks.ensures.size small 0 2 start accepted refl)
    (c.spelling_fills_its_blocks.ensures.bytes small start))
