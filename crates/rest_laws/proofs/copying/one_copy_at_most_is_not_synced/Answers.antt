use Rattle.rest_laws.proofs.OneCopy.{last_clause, under_way_clause, void_clause}
use Rattle.rest_laws.proofs.copying.one_copy_at_most_is_not_synced.Goals as goal

pub returns : goal.returns
returns c = record { void = void_clause; last = last_clause; under_way = under_way_clause }
