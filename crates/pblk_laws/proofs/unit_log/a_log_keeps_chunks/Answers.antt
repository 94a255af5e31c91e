use Rattle.pblk_laws.proofs.UnitChunks.{log_keeps, log_count}
use Rattle.pblk_laws.proofs.unit_log.a_log_keeps_chunks.Goals as goal

pub returns : goal.returns
returns c = record { each = log_keeps; count = log_count }
