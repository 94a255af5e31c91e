use Rattle.pblk_laws.proofs.Starts.{fields_fit, read_back}
use Rattle.pblk_laws.proofs.start_record.spelled_is_read.Goals as goal

pub returns : goal.returns
returns c = λ s line g r accepted inside wide fits. read_back s line g r (fields_fit s line g r accepted inside wide fits) fits
