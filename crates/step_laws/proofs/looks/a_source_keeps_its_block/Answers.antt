use Rattle.step_laws.proofs.KeptSources.{block_kept, source_kept}
use Rattle.step_laws.proofs.looks.a_source_keeps_its_block.Goals as goal

pub returns : goal.returns
returns c = record { block = block_kept; latest = source_kept }
