use Rattle.std.proofs.Common.{arith}
use Rattle.pblk_model.proofs.Sizes.{end_is_short}
use Rattle.pblk_model.proofs.shape.Shape.end_len.Goals as goal

pub overflow_cast-result : goal.overflow_cast-result
overflow_cast-result c =
    let short = end_is_short c.args.self.now c.args.width c.requires.accepted c.requires.width in
    omega (arith, short, c.end_blocks.ensures)

pub returns-clause-short : goal.returns-clause-short
returns-clause-short c =
    let short = end_is_short c.args.self.now c.args.width c.requires.accepted c.requires.width in
    omega (arith, short, c.end_blocks.ensures)
