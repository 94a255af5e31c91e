use Rattle.std.proofs.Common.{refl, subst}
use Rattle.pblk_model.specs.Shape.{small}
use Rattle.pblk_model.specs.Accepted.{IsAccepted}
use Rattle.world_tests.specs.Filled.{narrow_start, narrow_end}
use Rattle.world_tests.proofs.FilledWorld.{legal_by, is_end_record}
use Rattle.world_tests.proofs.filled.a_world_with_a_full_line_is_legal.Goals as goal

pub returns : goal.returns
returns c =
    let accepted : IsAccepted small = subst IsAccepted c.small-shape.ensures.numbers c.small-shape.ensures.accepted in
    legal_by (c.spelling_fills_its_blocks.ensures.size small 0 1 narrow_start accepted refl) (c.spelling_fills_its_blocks.ensures.bytes small narrow_start)
    (c.end_spelling_fills_its_blocks.ensures.size small narrow_end accepted is_end_record) (c.end_spelling_fills_its_blocks.ensures.bytes small narrow_end)
