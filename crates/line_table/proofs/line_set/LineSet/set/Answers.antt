use Rattle.std.proofs.Common.{◌<◌, ◌/◌, length, ap, ◌∙◌, arith}
use Rattle.line_table.specs.LineSets.{has}
use Rattle.line_table.proofs.Sets.{has_set, has_other}
use Rattle.line_table.proofs.line_set.LineSet.set.Goals as goal

pub returns-clause-set : goal.returns-clause-set
returns-clause-set c =
    let inside : c.args.line / 64 < length c.self.inside.words = omega arith in
    has_set c.self.inside.words c.args.line c.with_bit.result c.args.to inside c.with_bit.ensures.set

pub returns-clause-others : goal.returns-clause-others
returns-clause-others c =
    let inside : c.args.line / 64 < length c.self.inside.words = omega arith in
    λ n other. has_other c.self.inside.words c.args.line c.with_bit.result n inside other c.with_bit.ensures.others
    ∙ ap (λ words. has words n) c.self.view_is
