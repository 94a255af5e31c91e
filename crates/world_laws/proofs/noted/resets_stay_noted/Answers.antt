use Rattle.world_laws.proofs.NotedResets.{noted_at, noted_before, noted_kept, noted_merged, noted_reset}
use Rattle.world_laws.proofs.noted.resets_stay_noted.Goals as goal

pub returns : goal.returns
returns c = record { merged = noted_merged; at_rest = noted_at; before = noted_before; kept = noted_kept; noted = noted_reset }
