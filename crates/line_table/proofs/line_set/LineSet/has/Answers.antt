use Rattle.std.proofs.Common.{ap, ◌∙◌}
use Rattle.line_table.specs.LineSets.{has}
use Rattle.line_table.proofs.Sets.{bit_tested}
use Rattle.line_table.proofs.line_set.LineSet.has.Goals as goal

pub returns : goal.returns
returns c = bit_tested c.self.inside.words c.args.line ∙ ap (λ words. has words c.args.line) c.self.view_is
