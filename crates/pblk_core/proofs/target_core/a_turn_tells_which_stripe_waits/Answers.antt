use Rattle.pblk_core.proofs.Laws.{its_entries, turn_is_next, turn_stays, waits_at_turn}
use Rattle.pblk_core.proofs.target_core.a_turn_tells_which_stripe_waits.Goals as goal

pub returns-clause-waits : goal.returns-clause-waits
returns-clause-waits c = waits_at_turn

pub returns-clause-turn : goal.returns-clause-turn
returns-clause-turn c = turn_is_next

pub returns-clause-stays : goal.returns-clause-stays
returns-clause-stays c = turn_stays

pub returns-clause-entries : goal.returns-clause-entries
returns-clause-entries c = its_entries
