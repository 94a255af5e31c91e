use Rattle.std.proofs.Common.{arith}
use Rattle.pblk_model.proofs.LeastLengths.{end_len_least, sector_at_least}
use Rattle.pblk_model.proofs.least_lengths.end_len_is_least.Goals as goal

pub returns : goal.returns
returns c = λ s g accepted. end_len_least s g accepted.drive.ws_opt (omega (arith, sector_at_least s accepted))
