use Rattle.line_table.proofs.Sets.{empty_has_none}
use Rattle.line_table.proofs.line_set.LineSet.empty.Goals as goal

pub returns : goal.returns
returns c = empty_has_none 16
