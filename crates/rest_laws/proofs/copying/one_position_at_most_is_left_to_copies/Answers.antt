use Rattle.rest_laws.proofs.OneCopy.{count_clause, count_under_way_clause}
use Rattle.rest_laws.proofs.copying.one_position_at_most_is_left_to_copies.Goals as goal

pub returns : goal.returns
returns c = record { taken = count_clause; under_way = count_under_way_clause }
