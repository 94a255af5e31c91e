use Rattle.world_laws.proofs.NextPrograms.{next_program_taken}
use Rattle.world_laws.proofs.PointerCounts.{counted_pointer}
use Rattle.world_laws.proofs.chunks.the_next_program_is_taken.Goals as goal

pub returns : goal.returns
returns c = record { taken = next_program_taken; pointer = counted_pointer }
