use Rattle.stripe_placer.proofs.Named.{next_is_ready, stopped_come_first}
use Rattle.stripe_placer.proofs.rules.a_unit_takes.Goals as goal

pub returns : goal.returns
returns c = record { ready = next_is_ready; stopped_first = stopped_come_first }
