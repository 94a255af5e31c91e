use Rattle.pblk_laws.proofs.Winners.{winner_is_winner, winner_is_only, no_winner}
use Rattle.pblk_laws.proofs.contents.winner_is_newest.Goals as goal

pub returns : goal.returns
returns c = record { is = winner_is_winner; only = winner_is_only; none = no_winner }
