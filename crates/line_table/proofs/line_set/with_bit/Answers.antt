use Rattle.std.proofs.Common.{sym, ◌∙◌}
use Rattle.line_table.proofs.Sets.{bit_is_set, others_as_set, bit_is_clear, others_as_cleared}
use Rattle.line_table.proofs.line_set.with_bit.Goals as goal

pub returns-then-to-clause-set : goal.returns-then-to-clause-set
returns-then-to-clause-set c = bit_is_set c.args.word c.args.bit c.requires ∙ sym c.if-to.true

pub returns-then-to-clause-others : goal.returns-then-to-clause-others
returns-then-to-clause-others c = λ n inside other. others_as_set c.args.word c.args.bit n c.requires other

pub returns-else-to-clause-set : goal.returns-else-to-clause-set
returns-else-to-clause-set c = bit_is_clear c.args.word c.args.bit c.requires ∙ sym c.if-to.false

pub returns-else-to-clause-others : goal.returns-else-to-clause-others
returns-else-to-clause-others c = λ n inside other. others_as_cleared c.args.word c.args.bit n c.requires inside other
