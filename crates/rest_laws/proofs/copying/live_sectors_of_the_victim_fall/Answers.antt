use Rattle.rest_laws.proofs.LivesAtWork.{life_at_work}
use Rattle.rest_laws.proofs.CountedCopies.{live_between, live_between_by_one}
use Rattle.rest_laws.proofs.copying.live_sectors_of_the_victim_fall.Goals as goal

pub returns : goal.returns
returns c = record {
  life = λ i w line from mount at_work within. life_at_work i w mount line from at_work within;
  falls = λ i w line from n mount some at_work low within. live_between i w mount line from some at_work n low within;
  by_one = λ i w line from n lba source mount some at_work low within small in_line place since.
      live_between_by_one i w mount line from some at_work n low within lba source small in_line place since;
}
