use Rattle.pblk_laws.proofs.EndSpelling.{read_end_back}
use Rattle.pblk_laws.proofs.end_record.end_spelled_is_read.Goals as goal

pub returns : goal.returns
returns c = read_end_back
