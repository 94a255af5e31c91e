use Rattle.rest_laws.proofs.LastStarts.{landed_is_newest}
use Rattle.rest_laws.proofs.VictimExists.{next_is_light}
use Rattle.rest_laws.proofs.collecting.the_next_victim_has_few_live_sectors.Goals as goal

pub returns : goal.returns
returns c i w last line mount none full wide last_is landed few next =
    next_is_light i w (record { mount = mount; none_lost = none }) full wide last last_is (landed_is_newest i w last last_is landed) few line next
