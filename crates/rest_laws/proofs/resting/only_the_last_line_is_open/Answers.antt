use Rattle.rest_laws.proofs.OnlyLastOpen.{others_over}
use Rattle.rest_laws.proofs.resting.only_the_last_line_is_open.Goals as goal

pub returns : goal.returns
returns c i w last o mount none full is before is_open answered no_end =
    others_over i w (record { mount = mount; none_lost = none }) full last is.opened o before is_open answered no_end
