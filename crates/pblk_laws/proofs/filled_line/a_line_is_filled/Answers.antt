use Rattle.pblk_laws.proofs.FilledExample.{filled_there}
use Rattle.pblk_laws.proofs.filled_line.a_line_is_filled.Goals as goal

pub returns : goal.returns
returns c = filled_there
