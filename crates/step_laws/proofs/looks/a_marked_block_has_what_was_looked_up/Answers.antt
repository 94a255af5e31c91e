use Rattle.step_laws.proofs.LookedUp.{accepted, online_looked, slot_looked}
use Rattle.step_laws.proofs.looks.a_marked_block_has_what_was_looked_up.Goals as goal

pub returns : goal.returns
returns c = record { block = accepted; slot = slot_looked; units = online_looked }
