use Rattle.pblk_laws.proofs.EndSpelling.{read_end_spelled}
use Rattle.pblk_laws.proofs.end_record.end_read_is_spelled.Goals as goal

pub returns-clause-spelled : goal.returns-clause-spelled
returns-clause-spelled c = λ s line g seq r bytes h. (read_end_spelled s line g seq r bytes h).spelled

pub returns-clause-fits : goal.returns-clause-fits
returns-clause-fits c = λ s line g seq r bytes h. (read_end_spelled s line g seq r bytes h).fits

pub returns-clause-whose : goal.returns-clause-whose
returns-clause-whose c = λ s line g seq r bytes h. let is = read_end_spelled s line g seq r bytes h in (is.line_is, is.width_is, is.seq_is)
