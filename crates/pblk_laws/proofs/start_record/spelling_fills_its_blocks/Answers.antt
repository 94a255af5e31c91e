use Rattle.pblk_laws.proofs.Starts.{start_bytes_length, start_bytes_are}
use Rattle.pblk_laws.proofs.start_record.spelling_fills_its_blocks.Goals as goal

pub returns : goal.returns
returns c = record { size = start_bytes_length; bytes = start_bytes_are }
