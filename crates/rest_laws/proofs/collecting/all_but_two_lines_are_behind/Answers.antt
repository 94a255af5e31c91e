use Rattle.rest_laws.proofs.OpenedBehind.{left_or_behind}
use Rattle.rest_laws.proofs.VictimExists.{one_not_behind}
use Rattle.rest_laws.proofs.collecting.all_but_two_lines_are_behind.Goals as goal

pub returns : goal.returns
returns c = record {
  opened = λ i w last o mount none full is is_open before wide. left_or_behind i w (record { mount = mount; none_lost = none }) full last
      is.opened o is_open before wide;
  others = λ i w last line other is last_is.
      one_not_behind i w (record { mount = is.mount; none_lost = is.none_lost }) is.full is.wide is.reset last last_is line other;
}
