use Rattle.rest_laws.proofs.ClaimedCopies.{begun_in_turn}
use Rattle.rest_laws.proofs.NearNumbers.{next_near, numbers_left, positions_left}
use Rattle.rest_laws.proofs.TakenNear.{taken_near_synced}
use Rattle.rest_laws.proofs.answers.the_numbers_left_are_told_by_the_image.Goals as goal

pub returns : goal.returns
returns c = record {
  near = next_near;
  numbers = numbers_left;
  taken = λ i w mount none_lost granted begun. taken_near_synced i w mount none_lost granted (begun_in_turn i w mount begun);
  positions = positions_left;
}
