use Rattle.pblk_laws.proofs.EndSpelling.{end_written}
use Rattle.pblk_laws.proofs.end_record.found_end_is_written.Goals as goal

pub returns : goal.returns
returns c = end_written
