use Rattle.pblk_laws.proofs.Filled.{end_is, contents_are}
use Rattle.pblk_laws.proofs.filled_line.filled_contents.Goals as goal

pub returns : goal.returns
returns c = record { contents = contents_are; end = end_is }
