use Rattle.std.proofs.Common.{arith}
use Rattle.pblk_model.proofs.LeastLengths.{start_len_least, sector_at_least}
use Rattle.pblk_model.proofs.least_lengths.start_len_is_least.Goals as goal

pub returns : goal.returns
returns c = λ s accepted. start_len_least s accepted.drive.ws_opt (omega (arith, sector_at_least s accepted))
