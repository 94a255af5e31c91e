use Rattle.pblk_core.proofs.Laws.{waits_by_turn}
use Rattle.pblk_core.proofs.target_core.a_stripe_waits_while_its_turn_is_the_number_of_answers.Goals as goal

pub returns : goal.returns
returns c = λ i w k p mount there. waits_by_turn i w p mount (k, there)
