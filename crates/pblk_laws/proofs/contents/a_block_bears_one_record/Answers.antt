use Rattle.pblk_laws.proofs.RecordPlaces.{records_alike}
use Rattle.pblk_laws.proofs.contents.a_block_bears_one_record.Goals as goal

pub returns : goal.returns
returns c = records_alike
