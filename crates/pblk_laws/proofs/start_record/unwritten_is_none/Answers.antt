use Rattle.pblk_laws.proofs.Runs.{start_none}
use Rattle.pblk_laws.proofs.start_record.unwritten_is_none.Goals as goal

pub returns : goal.returns
returns c = start_none
