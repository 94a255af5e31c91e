use Rattle.pblk_laws.proofs.Filled.{end_none}
use Rattle.pblk_laws.proofs.filled_line.no_end_record.Goals as goal

pub returns : goal.returns
returns c = end_none
