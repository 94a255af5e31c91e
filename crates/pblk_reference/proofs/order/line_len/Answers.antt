use Rattle.pblk_reference.proofs.Sizes.{below_u32}
use Rattle.pblk_reference.proofs.order.line_len.Goals as goal
use Rattle.pblk_model.proofs.AcceptedLemmas.{line_is_short}

pub overflow_mul-result : goal.overflow_mul-result
overflow_mul-result c = below_u32 _ (line_is_short c.args.shape.now c.args.width c.requires.accepted c.requires.width)

pub returns-clause-few : goal.returns-clause-few
returns-clause-few c = line_is_short c.args.shape.now c.args.width c.requires.accepted c.requires.width
