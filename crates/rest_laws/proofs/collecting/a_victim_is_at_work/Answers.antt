use Rattle.rest_laws.proofs.AtWork.{victim_at_work}
use Rattle.rest_laws.proofs.collecting.a_victim_is_at_work.Goals as goal

pub returns : goal.returns
returns c = victim_at_work
