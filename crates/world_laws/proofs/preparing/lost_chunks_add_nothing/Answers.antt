use Rattle.world_laws.proofs.LosingLines.{lose_records, lose_sealed, lose_start}
use Rattle.world_laws.proofs.preparing.lost_chunks_add_nothing.Goals as goal

pub returns : goal.returns
returns c = record { sealed = lose_sealed; start = lose_start; records = lose_records }
