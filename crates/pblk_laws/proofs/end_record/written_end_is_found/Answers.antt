use Rattle.pblk_laws.proofs.EndSpelling.{end_found}
use Rattle.pblk_laws.proofs.end_record.written_end_is_found.Goals as goal

pub returns : goal.returns
returns c = end_found
