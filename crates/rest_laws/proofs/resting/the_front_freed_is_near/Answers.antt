use Rattle.rest_laws.proofs.FreedNear.{taken_near}
use Rattle.rest_laws.proofs.NothingOpened.{unopened_waits}
use Rattle.rest_laws.proofs.resting.the_front_freed_is_near.Goals as goal

pub returns : goal.returns
returns c = record {
  near = λ i w last mount none full. taken_near i w (record { mount = mount; none_lost = none }) full last;
  unopened = λ i w mount none. unopened_waits i w (record { mount = mount; none_lost = none });
}
