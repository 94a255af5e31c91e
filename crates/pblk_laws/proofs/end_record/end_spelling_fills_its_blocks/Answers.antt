use Rattle.pblk_laws.proofs.EndSpelling.{end_bytes_length, end_bytes_are}
use Rattle.pblk_laws.proofs.end_record.end_spelling_fills_its_blocks.Goals as goal

pub returns : goal.returns
returns c = record { size = end_bytes_length; bytes = end_bytes_are }
