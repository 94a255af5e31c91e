use Rattle.pblk_laws.proofs.Starts.{read_spelled}
use Rattle.pblk_laws.proofs.start_record.read_is_spelled.Goals as goal

pub returns : goal.returns
returns c = read_spelled
