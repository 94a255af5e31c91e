use Rattle.rest_laws.proofs.OverSynced.{below_synced}
use Rattle.rest_laws.proofs.collecting.what_has_landed_whole_is_synced.Goals as goal

pub returns : goal.returns
returns c i w o p position mount none full is_open wide landed its holds =
    below_synced i w (record { mount = mount; none_lost = none }) full o is_open landed wide p position its holds
