use Rattle.pblk_laws.proofs.LineUnits.{block_named, no_block_past}
use Rattle.pblk_laws.proofs.line_order.block_at_is.Goals as goal

pub returns-clause-named : goal.returns-clause-named
returns-clause-named c = block_named

pub returns-clause-past : goal.returns-clause-past
returns-clause-past c = no_block_past
