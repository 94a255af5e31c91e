use Rattle.world_laws.proofs.EarlierLogs.{some_begun}
use Rattle.rest_laws.proofs.LastStarts.{landed_is_newest, last_landed, last_stands}
use Rattle.rest_laws.proofs.SomeOpened.{last_opened}
use Rattle.rest_laws.proofs.collecting.the_last_line_has_begun.Goals as goal

pub returns : goal.returns
returns c = record {
  opened = λ i w is some four due.
      let b = some_begun i w is.mount.legal some in last_opened i w b.0 is.mount b.1 is.wide is.reset four due;
  stands = λ i w last mount none last_is. last_stands i w (record { mount = mount; none_lost = none }) last last_is;
  landed = λ i w last mount none last_is. last_landed i w (record { mount = mount; none_lost = none }) last last_is;
  newest = landed_is_newest;
}
