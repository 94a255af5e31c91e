use Rattle.rest_laws.proofs.LastStarts.{landed_is_newest}
use Rattle.rest_laws.proofs.VictimExists.{victim_exists}
use Rattle.rest_laws.proofs.collecting.some_line_may_be_collected.Goals as goal

pub returns : goal.returns
returns c i w last is last_is landed due =
    victim_exists i w (record { mount = is.mount; none_lost = is.none_lost }) is.full is.wide is.reset last last_is
    (landed_is_newest i w last last_is landed) due
