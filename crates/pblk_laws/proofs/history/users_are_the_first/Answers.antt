use Rattle.pblk_laws.proofs.Users.{first_users}
use Rattle.pblk_laws.proofs.history.users_are_the_first.Goals as goal
use Rattle.pblk_model.proofs.HistoryLemmas.{few_users}

pub returns : goal.returns
returns c = record { first = first_users; few = few_users }
