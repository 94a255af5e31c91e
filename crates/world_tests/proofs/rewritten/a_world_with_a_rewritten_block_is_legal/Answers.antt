use Rattle.std.proofs.Common.{subst}
use Rattle.pblk_model.specs.Shape.{small}
use Rattle.pblk_model.specs.Accepted.{IsAccepted}
use Rattle.world_tests.proofs.RewrittenWorld.{legal_by}
use Rattle.world_tests.proofs.rewritten.a_world_with_a_rewritten_block_is_legal.Goals as goal

pub returns : goal.returns
returns c =
    let accepted : IsAccepted small = subst IsAccepted c.small-shape.ensures.numbers c.small-shape.ensures.accepted in
    legal_by (λ r fits. c.spelling_fills_its_blocks.ensures.size small r.line 2 r accepted fits) (λ r. c.spelling_fills_its_blocks.ensures.bytes small r)
