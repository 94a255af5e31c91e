use Rattle.pblk_laws.proofs.Ends.{end_is_end, end_is_only}
use Rattle.pblk_laws.proofs.contents.end_is_least.Goals as goal

pub returns : goal.returns
returns c = record { is = end_is_end; only = end_is_only }
