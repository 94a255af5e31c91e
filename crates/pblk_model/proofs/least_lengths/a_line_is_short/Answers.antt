use Rattle.pblk_model.proofs.least_lengths.a_line_is_short.Goals as goal
use Rattle.pblk_model.proofs.AcceptedLemmas.{line_is_short}

pub returns : goal.returns
returns c = line_is_short
