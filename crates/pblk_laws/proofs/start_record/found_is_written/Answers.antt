use Rattle.pblk_laws.proofs.Starts.{found_is}
use Rattle.pblk_laws.proofs.start_record.found_is_written.Goals as goal

pub returns : goal.returns
returns c = found_is
