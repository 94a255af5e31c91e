use Rattle.pblk_core.proofs.Laws.{reset_empty}
use Rattle.pblk_core.proofs.target_core.a_line_is_empty_once_it_was_reset.Goals as goal

pub returns : goal.returns
returns c = reset_empty
