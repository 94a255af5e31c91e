use Rattle.world_laws.proofs.FirstEvent.{only_fetches}
use Rattle.world_laws.proofs.Pending.{pending_is_open}
use Rattle.world_laws.proofs.Programs.{program_of_stripe}
use Rattle.world_laws.proofs.chunks.a_units_programs_are_of_its_stripes.Goals as goal

pub returns : goal.returns
returns c = record { programs = program_of_stripe; before = only_fetches; pending = pending_is_open }
