use Rattle.pblk_laws.proofs.UnitChunks.{cut_is_log, log_is_cut}
use Rattle.pblk_laws.proofs.unit_log.cuts_are_logs.Goals as goal

pub returns : goal.returns
returns c = record { cut = cut_is_log; log = log_is_cut }
