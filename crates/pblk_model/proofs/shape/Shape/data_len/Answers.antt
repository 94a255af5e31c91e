use Rattle.std.proofs.Common.{arith}
use Rattle.pblk_model.proofs.shape.Shape.data_len.Goals as goal
use Rattle.pblk_model.proofs.AcceptedLemmas.{line_is_short}

pub overflow_cast-result : goal.overflow_cast-result
overflow_cast-result c =
    let short = line_is_short c.args.self.now c.args.width c.requires.accepted c.requires.width in
    omega (arith, short, c.data_blocks.ensures.within)
